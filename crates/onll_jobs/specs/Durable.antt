-- What `replay` and `recover` say of crashes.

use Rattle.std.specs.Prelude.{ℕ, suc, ◌≡◌, List, [], ◌∷◌, length, take, Some, None, Ok}
use Rattle.onll_model.specs.declared.call.Call.{Call}
use Rattle.onll_start.specs.Heads.{created_heads}
use Rattle.onll_start.specs.Start.{found_in}
use Rattle.onll_core.specs.Core.{CoreState}
use Rattle.onll_core.specs.Created.{created_core, IsWithinLimits}
use Rattle.onll_log.specs.Head.{heads_from}
use Rattle.onll_core.specs.Crash.{images_of, AreImages, RecoversAll}
use Rattle.onll_core.specs.Durable.{AlwaysDurable, CoreBegins}
use Rattle.onll_core.specs.Step.{steps_of}
use Rattle.onll_text.specs.declared.any_object.AnyObject.{AnyObject}
use Rattle.onll_text.specs.declared.schedule.Schedule.{Schedule}
use Rattle.onll_text.specs.Init.{init_of}
use Rattle.onll_text.specs.Schedule.{schedule_of}
use Rattle.onll_text.specs.Kinds.{ObjectKind, on_object}
use Rattle.onll_outside.specs.Views.{StoreView, Puts, image_bytes}
use Rattle.onll_task.specs.declared.ending.Ending.TheVariants.{Done}
use Rattle.onll_jobs.specs.Seen.{Seen}
use Rattle.onll_jobs.specs.Command.{Recover, Replay, form_of}
use Rattle.onll_task.specs.Reading.{FileIsTold, Reads, ReadsWhole}
use Rattle.onll_task.specs.Writing.{FilesStay, written}
use Rattle.onll_open.specs.Names.{log_name}
use Rattle.onll_eras.specs.Restored.{TellLogs}
use Rattle.onll_merge.specs.Recovered.{recovered_with}
use Rattle.onll_recovery.specs.RecoverJob.{recover_report}
use Rattle.onll_recovery.specs.ReplayJob.{played, replay_report}
use Rattle.onll_task.specs.Scripts.{ReadScripts}
use Rattle.onll_jobs.specs.Says.{NoneRose, SaysThis}

-- ---- a replay
-- the store after the images of threads, from thread i on, were made files
abbrev pub with_images : StoreView → List ℕ → ℕ → List (List (List ℕ)) → StoreView
with_images store logs i [] = store
with_images store logs i (image ∷ images) = with_images (written store (log_name logs i) (image_bytes image)) logs (suc i) images

-- This text is the report of a run of the scripts that the files hold, by the schedule that a file holds. Every run of these
-- scripts, by any schedule, is durable at each step; and what is printed of this one is its calls and its trace, and the front
-- of that trace which the images of its crash recover to. They are in the files of the logs.
pub record HasReplayed (k : ObjectKind) (init : List ℕ) (s : k.State) (store after : StoreView) (schedule logs : List ℕ)
    (names : List (List ℕ)) (text : List ℕ) : Type 0 where
  pub scripts : List (List (Call k.State k.Op k.Query k.Reply))
  pub plan : Schedule
  pub read : ReadScripts k.wording store names scripts
  pub planned : Reads store (schedule_of (length scripts)) schedule plan
  pub durable : AlwaysDurable k.means k.code init s scripts (created_core s k.code init scripts)
  pub core : CoreState k.State k.Op k.Query k.Reply
  pub run : core ≡ played k.means k.code init s scripts plan.turns
  pub crash : RecoversAll k.means (created_heads k.code init scripts) core (images_of plan.keep core.threads)
  pub printed : text ≡ replay_report k.means k.wording None core plan.keep (recovered_with crash.recovers.logs crash.recovers.nodes)
  pub files : FilesStay (with_images store logs 0 (images_of plan.keep core.threads)) after

-- the same for an object of any kind
abbrev pub HasReplayedAny : (init : List ℕ) → (store after : StoreView) → (schedule logs : List ℕ)
    → List (List ℕ) → List ℕ → AnyObject → Type 0
HasReplayedAny init store after schedule logs names text object =
    on_object (λ k s. HasReplayed k init s store after schedule logs names text) object

-- a replay over the initial state that a file holds, whose report was put
pub record ReplayPut (seen : Seen) (init schedule logs : List ℕ) (names : List (List ℕ)) : Type 0 where
  pub bytes : List ℕ
  pub object : AnyObject
  pub read : ReadsWhole seen.store init_of init bytes object
  pub text : List ℕ
  pub replayed : HasReplayedAny bytes seen.store seen.store_after schedule logs names text object
  pub put : Puts seen.sink seen.sink_after text

-- a replay that is done
abbrev pub ReplayIsDurable : Seen → ℕ → Type 0
ReplayIsDurable seen status = (init schedule logs : List ℕ) (names : List (List ℕ))
    → form_of seen.words ≡ Some (Replay init schedule logs names) → status ≡ 0 → ReplayPut seen init schedule logs names

-- ---- a recovery
-- A crash left the files of the logs: a core ran some scripts within the limits, by any steps of its threads, anew or going on from any
-- images, and so after any number of generations; each file holds any of the images that its device may have.
pub record AreLeftFiles (k : ObjectKind) (init : List ℕ) (s : k.State) (store : StoreView) (logs : List ℕ) (threads : ℕ) : Type 0 where
  pub scripts : List (List (Call k.State k.Op k.Query k.Reply))
  pub within : IsWithinLimits k.code scripts
  pub many : length scripts ≡ threads
  pub first : CoreState k.State k.Op k.Query k.Reply
  pub begins : CoreBegins k.means k.code init s scripts first
  pub steps : List ℕ
  pub images : List (List (List ℕ))
  pub left : AreImages (steps_of k.means first steps).threads images
  pub files : TellLogs store logs 0 images

-- Its images recover to the front of the core's trace which holds all that it went on from, every returned update and all that returned
-- reads saw; and that is what they give to as many scripts.
pub record FilesLeaveAll (k : ObjectKind) (init : List ℕ) (s : k.State) (store : StoreView) (logs : List ℕ) (threads : ℕ)
    (left : AreLeftFiles k init s store logs threads) : Type 0 where
  pub all : RecoversAll k.means (created_heads k.code init left.scripts) (steps_of k.means left.first left.steps) left.images
  pub front : take (length left.first.trace) all.recovers.nodes ≡ left.first.trace
  pub gives : found_in k.means (heads_from threads k.code init 0 threads) left.images
      ≡ Ok (record { logs = all.recovers.logs; nodes = all.recovers.nodes })

-- What is printed is that front, and the state after it; or memory could not be had.
pub record RecoversLeft (k : ObjectKind) (init : List ℕ) (s : k.State) (seen : Seen) (status : ℕ) (logs : List ℕ) (threads : ℕ)
    (left : AreLeftFiles k init s seen.store logs threads) : Type 0 where
  pub leaves : FilesLeaveAll k init s seen.store logs threads left
  pub says : SaysThis seen status Done (recover_report k.means k.wording s
      (recovered_with leaves.all.recovers.logs leaves.all.recovers.nodes))

-- the same for an object of any kind
abbrev pub RecoversLeftAny : (init : List ℕ) → Seen → (status : ℕ) → (logs : List ℕ) → (threads : ℕ) → AnyObject → Type 0
RecoversLeftAny init seen status logs threads object =
    on_object (λ k s. (left : AreLeftFiles k init s seen.store logs threads) → RecoversLeft k init s seen status logs threads left) object

-- a recovery over the initial state that a file tells, where no call of the store or of the sink failed
abbrev pub RecoversCrashes : Seen → ℕ → Type 0
RecoversCrashes seen status = (init logs bytes : List ℕ) (threads : ℕ) (object : AnyObject)
    → form_of seen.words ≡ Some (Recover init logs threads)
    → FileIsTold seen.store init bytes → init_of bytes ≡ Ok object → NoneRose seen → RecoversLeftAny bytes seen status logs threads object

-- What a recovery promises beside: from the files of the logs, whatever a crash left of them after whatever generations, it prints that
-- front, or the status is 9.
pub record RecoverPromises (seen : Seen) (status : ℕ) : Type 0 where
  pub crashes : RecoversCrashes seen status

-- What a replay promises beside. What it prints is one run of scripts every run of which is durable at each step: one legal history
-- in real time, an update that fences once, a read that never does, and, whatever a crash leaves, logs that recover to a prefix
-- which holds every returned update and all that returned reads saw. The images that this run's crash leaves are in the files.
-- They always recover.
pub record ReplayPromises (seen : Seen) (status : ℕ) : Type 0 where
  pub durable : ReplayIsDurable seen status
  pub recovers : (init schedule logs : List ℕ) (names : List (List ℕ)) → form_of seen.words ≡ Some (Replay init schedule logs names)
      → status ≡ 4 → ⊥
