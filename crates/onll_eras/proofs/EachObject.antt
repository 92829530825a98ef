-- What is said of an object of any kind is said of each kind by its name.

use Rattle.std.proofs.Common.{sym, subst}
use Rattle.onll_text.specs.declared.any_object.AnyObject.{AnyObject}
use Rattle.onll_text.specs.declared.any_object.Kind.{Kind}
use Rattle.onll_text.specs.Init.{object_at, kind_and_state}
use Rattle.onll_text.specs.Kinds.{ObjectKind, kind_at, on_object}
use Rattle.onll_text.proofs.EachKind.{by_kind, same_object, on_kind_at}
use Rattle.onll_task.specs.Job.{Job}
use Rattle.onll_task.specs.Doing.{Task}

-- what is said of an object is said of its kind and its state, and the other way
on_its_kind : (A : (k : ObjectKind) → k.State → Type 0) (object : AnyObject) → on_object A object → A (kind_at (kind_and_state object).0) (kind_and_state object).1
on_its_kind A object h = subst (λ (said : Type 0). said) (by_kind {A = Type 0} (λ kind s. A (kind_at kind) s) object) h

of_its_kind : (A : (k : ObjectKind) → k.State → Type 0) (object : AnyObject) → A (kind_at (kind_and_state object).0) (kind_and_state object).1 → on_object A object
of_its_kind A object h = subst (λ (said : Type 0). said) (sym (by_kind {A = Type 0} (λ kind s. A (kind_at kind) s) object)) h

-- what follows for each kind follows for an object
pub at_object : (A : (k : ObjectKind) → k.State → Type 0) (C : AnyObject → Type 0)
    → ((kind : Kind) (s : (kind_at kind).State) → A (kind_at kind) s → C (object_at kind s)) → (object : AnyObject) → on_object A object → C object
at_object A C step object h = let held = kind_and_state object in subst C (same_object object) (step held.0 held.1 (on_its_kind A object h))

-- what holds of a kind and a state holds of the object with them
pub to_object : (B : (k : ObjectKind) → k.State → Type 0) (kind : Kind) (s : (kind_at kind).State) → B (kind_at kind) s → on_object B (object_at kind s)
to_object B kind s h = subst (λ (said : Type 0). said) (sym (on_kind_at {A = Type 0} (λ kind s. B (kind_at kind) s) kind s)) h

-- what holds of each kind in place of another holds of an object in place of that
pub each_object : (A B : (k : ObjectKind) → k.State → Type 0) → ((kind : Kind) (s : (kind_at kind).State) → A (kind_at kind) s → B (kind_at kind) s)
    → (object : AnyObject) → on_object A object → on_object B object
each_object A B step object h = let held = kind_and_state object in of_its_kind B object (step held.0 held.1 (on_its_kind A object h))

-- two things that hold of an object hold of its kind together
pub both_objects : (A B : (k : ObjectKind) → k.State → Type 0) (object : AnyObject) → on_object A object → on_object B object → on_object (λ k s. A k s × B k s) object
both_objects A B object g h = of_its_kind (λ k s. A k s × B k s) object (on_its_kind A object g, on_its_kind B object h)

-- the job of a task for each kind
pub job_of_kind : (Next : (k : ObjectKind) → k.State → Task) (Q : Job → Type 0) (object : AnyObject) → Q (on_object Next object).job → on_object (λ k s. Q (Next k s).job) object
job_of_kind Next Q object h =
    of_its_kind (λ k s. Q (Next k s).job) object (subst (λ (task : Task). Q task.job) (by_kind {A = Task} (λ kind s. Next (kind_at kind) s) object) h)

pub job_of_object : (Next : (k : ObjectKind) → k.State → Task) (Q : Job → Type 0) (object : AnyObject) → on_object (λ k s. Q (Next k s).job) object → Q (on_object Next object).job
job_of_object Next Q object h =
    subst (λ (task : Task). Q task.job) (sym (by_kind {A = Task} (λ kind s. Next (kind_at kind) s) object)) (on_its_kind (λ k s. Q (Next k s).job) object h)
