-- Runs on threads as a stage of a task, also over an object whose kind has no name where it is done.

use Rattle.std.specs.Prelude.{ℕ, List}
use Rattle.onll_outside.specs.Views.{StoreView}
use Rattle.onll_run.specs.Left.{HasRun}
use Rattle.onll_text.specs.Kinds.{ObjectKind}
use Rattle.onll_task.specs.declared.ending.Ending.{Ending}
use Rattle.onll_task.specs.Running.{RunPlan, RunLeft, RunGoes, RunCut}
use Rattle.onll_task.specs.Job.{Job, JobEnds, JobCut}
use Rattle.onll_task.specs.Doing.{Stage}

-- What stands for the runs of a kind in a job: the job may end as a run of the plan may go, and what it leaves goes on.
pub record StandsForRuns (k : ObjectKind) (threads : RunPlan k → (RunLeft k → Job) → Job) : Type 0 where
  pub ends : (plan : RunPlan k) (next : RunLeft k → Job) (store after : StoreView) (ending : Ending) (text : List ℕ)
      → RunGoes plan store after ending text (λ left kept. JobEnds kept after (next left) ending text)
      → JobEnds store after (threads plan next) ending text
  pub cut : (plan : RunPlan k) (next : RunLeft k → Job) (store after : StoreView)
      → RunCut plan store after (λ left kept. JobCut kept after (next left)) → JobCut store after (threads plan next)

-- scripts are run, and leave something
abbrev pub threads_stage : {k : ObjectKind} → (RunPlan k → (RunLeft k → Job) → Job) → RunPlan k → Stage (RunLeft k)
threads_stage {k} threads plan = record { job = threads plan; known = λ store left. HasRun k.means plan.run left }
