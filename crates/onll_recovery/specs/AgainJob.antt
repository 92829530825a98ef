-- What `again INIT SCHEDULE LOGS SCRIPT..` does: a core goes on from the images of an earlier generation, plays a schedule and
-- crashes, the images are written back, and the run and what recovery finds are said.

use Rattle.std.specs.Prelude.{ℕ, List, Some, Result, Ok, Err, length}
use Rattle.onll_model.specs.declared.call.Call.{Call}
use Rattle.onll_model.specs.Object.{Behaviour}
use Rattle.onll_start.specs.declared.fault.ResumeFault.{ResumeFault}
use Rattle.onll_core.specs.Core.{CoreState}
use Rattle.onll_core.specs.Step.{steps_of}
use Rattle.onll_core.specs.Turns.{turns_of}
use Rattle.onll_core.specs.Resume.{resumed}
use Rattle.onll_text.specs.declared.schedule.Schedule.{Schedule}
use Rattle.onll_text.specs.Kinds.{ObjectKind}
use Rattle.onll_text.specs.Schedule.{schedule_of}
use Rattle.onll_text.specs.Wording.{Wording}
use Rattle.onll_task.specs.Doing.{Task, after_stage, say_task, text_stage}
use Rattle.onll_task.specs.Images.{images_stage}
use Rattle.onll_task.specs.NotResumed.{resume_ending, resume_text}
use Rattle.onll_recovery.specs.ReplayJob.{crash_task}
use Rattle.onll_task.specs.Scripts.{scripts_stage}

-- ---- the work
-- a core plays the schedule and crashes, as in a replay; or it is said why there is none
abbrev pub resumed_task : {State Op Query Reply : Type 0} → Behaviour State Op Query Reply → Wording State Op Query Reply
    → List ℕ → List (List ℕ) → List (List (Call State Op Query Reply)) → Schedule → Result (CoreState State Op Query Reply) ResumeFault
    → Task
resumed_task b w logs names scripts plan (Ok c) =
    crash_task b w logs (Some c.base) scripts (steps_of b c (turns_of plan.turns)) plan.keep
resumed_task b w logs names scripts plan (Err fault) = say_task (resume_ending fault) (resume_text names fault)

-- the images of the logs are read, and a core goes on from them
abbrev pub goes_on_task : (k : ObjectKind) → List ℕ → k.State → (logs : List ℕ) → List (List ℕ)
    → List (List (Call k.State k.Op k.Query k.Reply)) → Schedule → Task
goes_on_task k init s logs names scripts plan = after_stage (images_stage logs (length scripts))
    (λ images. resumed_task k.means k.wording logs names scripts plan (resumed k.means k.code init s images scripts))

-- the schedule of these scripts is read first
abbrev pub planned_task : (k : ObjectKind) → List ℕ → k.State → (schedule logs : List ℕ) → List (List ℕ)
    → List (List (Call k.State k.Op k.Query k.Reply)) → Task
planned_task k init s schedule logs names scripts =
    after_stage (text_stage schedule (schedule_of (length scripts))) (λ plan. goes_on_task k init s logs names scripts plan)

-- and before it the scripts
abbrev pub again_task : (k : ObjectKind) → (init schedule logs : List ℕ) → List (List ℕ) → k.State → Task
again_task k init schedule logs names s =
    after_stage (scripts_stage k.wording names) (λ scripts. planned_task k init s schedule logs names scripts)
