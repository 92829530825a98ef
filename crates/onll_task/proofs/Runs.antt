-- How a function that runs scripts on threads does its task.

use Rattle.std.proofs.Common.{Vec, ℕ, List, ◌≡◌, Ok, Err, inl, inr, sym, subst}
use Rattle.onll_outside.specs.Views.{StoreView}
use Rattle.onll_run.specs.Left.{HasRun}
use Rattle.onll_text.specs.declared.any_object.Kind.{Kind}
use Rattle.onll_text.specs.Kinds.{ObjectKind, kind_at}
use Rattle.onll_task.specs.declared.ending.Ending.{Ending}
use Rattle.onll_task.specs.declared.ending.Ending.TheVariants.{Done, Faulty}
use Rattle.onll_task.specs.declared.answer.Stop.{Stop}
use Rattle.onll_task.specs.declared.answer.Stop.TheVariants.{Says, NoMemory}
use Rattle.onll_task.specs.Job.{Job, Threads, JobEnds}
use Rattle.onll_task.specs.Doing.{Task, after_stage, Fulfils}
use Rattle.onll_task.specs.Running.{RunPlan, RunLeft, PlanReads, HasKept, LeavesKept, IsCutShort, RunStops, log_files}
use Rattle.onll_task.specs.Standing.{StandsForRuns, threads_stage}
use Rattle.onll_task.specs.Stop.{StopSays}
use Rattle.onll_open.specs.Files.{SameBut}
use Rattle.onll_task.proofs.Onwards.{ends_cut}

-- a job's node of a kind stands for the runs of that kind
pub stands_at : (kind : Kind) → StandsForRuns (kind_at kind) (Threads kind)
stands_at kind = record { ends = λ plan next store after ending text h. h; cut = λ plan next store after h. h }

-- what it leaves is kept, and then this holds
leaves : {k : ObjectKind} {plan : RunPlan k} {Next : RunLeft k → StoreView → Type 0} (store after : StoreView) (left : RunLeft k) → HasRun k.means plan.run left → PlanReads plan left → HasKept plan left store after → Next left after
    → LeavesKept plan store Next
leaves store after left run reads kept next = record { left = left; kept = after; run = run; reads = reads; keeps = kept; next = next }

module _ {k : ObjectKind} (threads : RunPlan k → (RunLeft k → Job) → Job) (stands : StandsForRuns k threads) (plan : RunPlan k)
    (next : RunLeft k → Task) where
  -- what was run is kept, and its report is said
  pub run_does : {A : Type 0} (store after : StoreView) (left : RunLeft k) (text : Vec ℕ A) → HasRun k.means plan.run left → PlanReads plan left → HasKept plan left store after
      → SameBut (log_files plan) store after → JobEnds after after (next left).job Done text.items → ((before : StoreView) → (next left).reports before text.items)
      → Fulfils (log_files plan) store after (after_stage (threads_stage threads plan) next) (Ok text)
  run_does store after left text run reads kept files ends reports = record {
    done = stands.ends plan (λ l. (next l).job) store after Done text.items (inr (leaves store after left run reads kept ends));
    reports = λ before same. record { value = left; known = run; reports = reports before };
    stops = tt;
    files = files;
  }

  -- the same with fences that failed
  pub broken_does : {A : Type 0} (store after : StoreView) (left : RunLeft k) (s : Stop) (said : List ℕ) → HasRun k.means plan.run left → PlanReads plan left → HasKept plan left store after
      → SameBut (log_files plan) store after → JobEnds after after (next left).job Faulty said → StopSays s (λ end text. (end ≡ Faulty) × (text ≡ said))
      → Fulfils {A = A} (log_files plan) store after (after_stage (threads_stage threads plan) next) (Err s)
  broken_does store after left (Says ending text) said run reads kept files ends says = record {
    done = tt;
    reports = tt;
    stops = (
      (λ e. cc),
      stands.ends plan (λ l. (next l).job) store after ending text.items (inr (leaves store after left run reads kept
          (subst (λ e. JobEnds after after (next left).job e text.items) (sym says.0) (subst (JobEnds after after (next left).job Faulty) (sym says.1) ends)))),
    );
    files = files;
  }
  broken_does store after left NoMemory said run reads kept files ends says = record {
    done = tt;
    reports = tt;
    stops = stands.cut plan (λ l. (next l).job) store after (inr (leaves store after left run reads kept (ends_cut after after (next left).job Faulty said ends)));
    files = files;
  }

  -- the run stopped so, or was cut short
  pub stopped_does : {A : Type 0} (store after : StoreView) (s : Stop) → SameBut (log_files plan) store after → IsCutShort plan store after
      → StopSays s (RunStops plan store after) → Fulfils {A = A} (log_files plan) store after (after_stage (threads_stage threads plan) next) (Err s)
  stopped_does store after (Says ending text) files short says = record {
    done = tt;
    reports = tt;
    stops = (not_done ending says, stands.ends plan (λ l. (next l).job) store after ending text.items (inl says));
    files = files;
  }
    where
      not_done : (ending : Ending) → RunStops plan store after ending text.items → ending ≡ Done → ⊥
      not_done Done h e = h
      not_done ending h e = subst (λ x. RunStops plan store after x text.items) e h
  stopped_does store after NoMemory files short says =
      record { done = tt; reports = tt; stops = stands.cut plan (λ l. (next l).job) store after (inl short); files = files }
