-- What `resume INIT LOGS SCRIPT..` does: scripts go on, on threads, from the logs of an earlier generation, told as `run` tells it.

use Rattle.std.specs.Prelude.{ℕ, ◌≡◌, ◌≤◌, ◌*◌, suc, true, List, [], ◌∷◌, length, Some, Result, Ok, Err}
use Rattle.std.specs.List.{All, AllByRecursion}
use Rattle.onll_model.specs.declared.call.Call.{Call}
use Rattle.onll_log.specs.declared.head.LogHead.{LogHead}
use Rattle.onll_log.specs.Grammar.{content_of}
use Rattle.onll_log.specs.ImageFile.{longest_image, image_lines}
use Rattle.onll_log.specs.Tested.{used_in}
use Rattle.onll_start.specs.declared.fault.ResumeFault.{ResumeFault}
use Rattle.onll_start.specs.Heads.{created_heads}
use Rattle.onll_start.specs.Start.{Found, base_in}
use Rattle.onll_outside.specs.Views.{StoreView}
use Rattle.onll_run.specs.Ran.{going_on}
use Rattle.onll_text.specs.Kinds.{ObjectKind}
use Rattle.onll_task.specs.Running.{RunPlan, RunLeft}
use Rattle.onll_task.specs.Job.{Job}
use Rattle.onll_task.specs.Doing.{Task, after_stage, say_task}
use Rattle.onll_open.specs.Names.{log_name}
use Rattle.onll_task.specs.Images.{images_stage, AllBeginWith}
use Rattle.onll_task.specs.NotResumed.{resume_ending, resume_text}
use Rattle.onll_task.specs.Scripts.{scripts_stage}
use Rattle.onll_runner.specs.RunJob.{calls_task}

-- ---- what is run
-- these scripts on an object in this state, over logs of this name and these heads that hold what was found
abbrev pub plan_over : (k : ObjectKind) → (logs : List ℕ) → k.State → List LogHead → List (List (Call k.State k.Op k.Query k.Reply)) → Found
    → RunPlan k
plan_over k logs s heads scripts found =
    record { logs = logs; reopens = true; run = going_on s heads found.nodes found.logs scripts }

-- the same of an object of this kind, in the state that these bytes say
abbrev pub resume_plan : (k : ObjectKind) → (init logs : List ℕ) → k.State → List (List (Call k.State k.Op k.Query k.Reply)) → Found
    → RunPlan k
resume_plan k init logs s scripts found = plan_over k logs s (created_heads k.code init scripts) scripts found

-- ---- the devices
-- where the store tells its files, the image that is read of each thread's, from thread t on, has so many lines
abbrev pub AreLong : List ℕ → ℕ → List ℕ → StoreView → Type 0
AreLong logs t [] store = Unit {0}
AreLong logs t (count ∷ counts) store = (store.tells ≡ true → (bytes : List ℕ) → store.file (log_name logs t) ≡ Some bytes
    → length (image_lines bytes) ≡ count) × AreLong logs (suc t) counts store

-- What is kept of the images of so many logs: of each no more lines than decide what it holds, with which its file begins, and how
-- many lines it has, which are no more than are read.
pub record AreKeptImages (logs : List ℕ) (threads : ℕ) (images : List (List (List ℕ))) (counts : List ℕ) (store : StoreView) : Type 0 where
  pub many : length images ≡ threads
  pub counted : length counts ≡ threads
  pub used : AllByRecursion (λ image. length image ≤ used_in (content_of image)) images
  pub few : All (λ count. 64 * count ≤ longest_image) counts
  pub long : AreLong logs 0 counts store
  pub begins : AllBeginWith logs 0 images store

-- ---- the work
module _ (k : ObjectKind) (threads : RunPlan k → (RunLeft k → Job) → Job) (init logs : List ℕ) (names : List (List ℕ)) (s : k.State) where
  -- scripts go on from what was found; or it is said why there is nothing to go on from
  abbrev pub based_task : List (List (Call k.State k.Op k.Query k.Reply)) → Result Found ResumeFault → Task
  based_task scripts (Ok found) = calls_task k threads (resume_plan k init logs s scripts found)
  based_task scripts (Err fault) = say_task (resume_ending fault) (resume_text names fault)

  -- the images of the logs are read first
  abbrev pub reopened_task : List (List (Call k.State k.Op k.Query k.Reply)) → Task
  reopened_task scripts = after_stage (images_stage logs (length scripts))
      (λ images. based_task scripts (base_in k.means (created_heads k.code init scripts) scripts images))

  -- and before them the scripts
  abbrev pub resume_task : Task
  resume_task = after_stage (scripts_stage k.wording names) reopened_task
