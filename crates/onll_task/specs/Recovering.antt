-- The logs of one run, recovered: the images of all are read, and what they give goes on.

use Rattle.std.specs.Prelude.{ℕ, List, ◌≡◌, Result, Ok, Err}
use Rattle.onll_merge.specs.declared.fault.StateFault.{StateFault}
use Rattle.onll_merge.specs.Recovered.{Recovered, expected_heads, state_recovered}
use Rattle.onll_text.specs.Kinds.{ObjectKind}
use Rattle.onll_task.specs.declared.ending.Ending.TheVariants.{BadLog}
use Rattle.onll_task.specs.Doing.{Stage, onto_stage}
use Rattle.onll_task.specs.Faults.{fault_line}
use Rattle.onll_task.specs.Images.{images_stage}
use Rattle.onll_task.specs.Job.{Job, Say}

-- what images give as those of a run of an object of this kind, whose initial state these bytes say
abbrev pub recovery_of : (k : ObjectKind) → List ℕ → List (List (List ℕ)) → Result Recovered StateFault
recovery_of k init images = state_recovered k.means (expected_heads k.code init images) images

-- a job goes on with what logs give, or it is said why they give nothing
abbrev pub on_recovery : (Recovered → Job) → Result Recovered StateFault → Job
on_recovery next (Ok r) = next r
on_recovery next (Err fault) = Say BadLog (fault_line fault)

abbrev pub given_stage : Result Recovered StateFault → Stage Recovered
given_stage given = record { job = λ (next : Recovered → Job). on_recovery next given; known = λ store r. given ≡ Ok r }

-- the images of the logs of so many threads are read and recovered
abbrev pub recovery_stage : (k : ObjectKind) → (init logs : List ℕ) → ℕ → Stage Recovered
recovery_stage k init logs threads = onto_stage (images_stage logs threads) (λ images. given_stage (recovery_of k init images))
