-- What was done over an object of any kind is the task over it.

use Rattle.std.proofs.Common.{Vec, ℕ, List, Result, sym, subst}
use Rattle.onll_outside.specs.Views.{StoreView}
use Rattle.onll_text.specs.declared.any_object.AnyObject.{AnyObject}
use Rattle.onll_text.specs.Init.{kind_and_state}
use Rattle.onll_text.specs.Kinds.{kind_at, on_object}
use Rattle.onll_text.proofs.EachKind.{by_kind}
use Rattle.onll_task.specs.declared.answer.Stop.{Stop}
use Rattle.onll_task.specs.Job.{Threads}
use Rattle.onll_task.specs.Doing.{Task, Fulfils}
use Rattle.onll_task.proofs.Runs.{stands_at}
use Rattle.onll_jobs.specs.Command.{OverForm, DoesOver, over_task, over_writes, object_task}

pub over_does : {A : Type 0} (over : OverForm) (store after : StoreView) (init : List ℕ) (object : AnyObject) (result : Result (Vec ℕ A) Stop)
    → on_object (λ k s. DoesOver over k store after init s result) object → Fulfils (over_writes over) store after (object_task over init object) result
over_does over store after init object result h =
    let held = kind_and_state object in
    let does = subst (λ (says : Type 0). says) (by_kind {A = Type 0} (λ kind s. DoesOver over (kind_at kind) store after init s result) object) h in
    subst (λ (task : Task). Fulfils (over_writes over) store after task result) (sym (by_kind {A = Task} (λ kind s. over_task over (kind_at kind) (Threads kind) init s) object))
    (does.by (Threads held.0) (stands_at held.0))
