-- What `again` says of the generation that it runs.

use Rattle.std.specs.Prelude.{ℕ, ◌≡◌, List, [], ◌∷◌, length, Some, Result, Ok, Err}
use Rattle.onll_model.specs.declared.call.Call.{Call}
use Rattle.onll_start.specs.declared.fault.ResumeFault.{ResumeFault}
use Rattle.onll_start.specs.declared.fault.ResumeFault.TheVariants.{TooMany}
use Rattle.onll_start.specs.Heads.{created_heads}
use Rattle.onll_start.specs.Start.{found_in}
use Rattle.onll_core.specs.Core.{CoreState}
use Rattle.onll_log.specs.Head.{heads_from}
use Rattle.onll_core.specs.Crash.{images_of, RecoversAll}
use Rattle.onll_core.specs.Durable.{AlwaysDurable}
use Rattle.onll_core.specs.Resume.{resumed}
use Rattle.onll_core.specs.Step.{steps_of}
use Rattle.onll_core.specs.Turns.{turns_of}
use Rattle.onll_run.specs.Left.{ImagesRecover}
use Rattle.onll_text.specs.declared.any_object.AnyObject.{AnyObject}
use Rattle.onll_text.specs.declared.schedule.Schedule.{Schedule}
use Rattle.onll_text.specs.Init.{init_of}
use Rattle.onll_text.specs.Refusal.{Refusal}
use Rattle.onll_text.specs.Schedule.{schedule_of}
use Rattle.onll_text.specs.Script.{script_of}
use Rattle.onll_text.specs.Kinds.{ObjectKind, on_object}
use Rattle.onll_text.specs.Wording.{Wording}
use Rattle.onll_outside.specs.Views.{StoreView}
use Rattle.onll_task.specs.declared.ending.Ending.TheVariants.{Done, Refused, BadLog}
use Rattle.onll_task.specs.Images.{images_stage}
use Rattle.onll_task.specs.Reading.{FileIsTold, Reads}
use Rattle.onll_task.specs.Writing.{FilesStay}
use Rattle.onll_merge.specs.Recovered.{recovered_with}
use Rattle.onll_task.specs.NotResumed.{resume_ending, resume_text}
use Rattle.onll_recovery.specs.ReplayJob.{replay_report}
use Rattle.onll_task.specs.Scripts.{ReadScripts}
use Rattle.onll_jobs.specs.Command.{Again, form_of}
use Rattle.onll_eras.specs.Restored.{TellLogs}
use Rattle.onll_jobs.specs.Durable.{AreLeftFiles, FilesLeaveAll, with_images}
use Rattle.onll_jobs.specs.RunPromises.{plan_from}
use Rattle.onll_jobs.specs.RunRecovers.{IsLeftByRun}
use Rattle.onll_jobs.specs.Says.{NoneRose, SaysThis, PutOverInit}
use Rattle.onll_jobs.specs.Seen.{Seen}

-- ---- what is printed
module _ (k : ObjectKind) (init : List ℕ) (s : k.State) (store : StoreView) (schedule logs : List ℕ)
    (names : List (List ℕ)) where
  -- the files hold these scripts, this schedule of them, and as logs these images
  pub record HasReadFiles (scripts : List (List (Call k.State k.Op k.Query k.Reply))) (plan : Schedule)
      (images : List (List (List ℕ))) : Type 0 where
    pub read : ReadScripts k.wording store names scripts
    pub planned : Reads store (schedule_of (length scripts)) schedule plan
    pub held : (images_stage logs (length scripts)).known store images

  -- This text is the report of a run of the scripts that the files hold, by the schedule that a file holds, of a core that goes on from
  -- the images in the files of the logs. Every run of these scripts from there on, by any schedule, is durable at each step; and what is
  -- printed of this one is its calls and its trace, which begins with what the images gave, and the front of that trace which the
  -- images of its crash recover to. They are in the files of the logs.
  pub record IsResumedReport (after : StoreView) (text : List ℕ) : Type 0 where
    pub scripts : List (List (Call k.State k.Op k.Query k.Reply))
    pub plan : Schedule
    pub images : List (List (List ℕ))
    pub files_read : HasReadFiles scripts plan images
    pub begun : CoreState k.State k.Op k.Query k.Reply
    pub goes_on : resumed k.means k.code init s images scripts ≡ Ok begun
    pub durable : AlwaysDurable k.means k.code init s scripts begun
    pub core : CoreState k.State k.Op k.Query k.Reply
    pub run : core ≡ steps_of k.means begun (turns_of plan.turns)
    pub crash : RecoversAll k.means (created_heads k.code init scripts) core (images_of plan.keep core.threads)
    pub printed : text ≡ replay_report k.means k.wording (Some (length begun.trace)) core plan.keep
        (recovered_with crash.recovers.logs crash.recovers.nodes)
    pub files : FilesStay (with_images store logs 0 (images_of plan.keep core.threads)) after

  -- No core goes on from the images in the files of the logs, and this text says what is wrong with them.
  pub record HasBadLogs (after : StoreView) (text : List ℕ) : Type 0 where
    pub scripts : List (List (Call k.State k.Op k.Query k.Reply))
    pub plan : Schedule
    pub images : List (List (List ℕ))
    pub files_read : HasReadFiles scripts plan images
    pub fault : ResumeFault
    pub refused : resumed k.means k.code init s images scripts ≡ Err fault
    pub bad : resume_ending fault ≡ BadLog
    pub said : text ≡ resume_text names fault

-- ---- when it is done
-- the named file is told, and its text is accepted as this value
pub record TellsValue {A : Type 0} (store : StoreView) (grammar : List ℕ → Result A Refusal) (name : List ℕ) (value : A) : Type 0 where
  pub bytes : List ℕ
  pub told : FileIsTold store name bytes
  pub accepted : grammar bytes ≡ Ok value

-- so are a script for each name
abbrev pub TellScripts : {State Op Query Reply : Type 0} → Wording State Op Query Reply → StoreView → List (List ℕ)
    → List (List (Call State Op Query Reply)) → Type 0
TellScripts w store [] [] = Unit {0}
TellScripts w store (name ∷ names) (script ∷ scripts) = TellsValue store (script_of w) name script × TellScripts w store names scripts
TellScripts w store names scripts = ⊥

-- and a schedule of them
pub record TellsPlan (k : ObjectKind) (store : StoreView) (schedule : List ℕ) (names : List (List ℕ)) : Type 0 where
  pub scripts : List (List (Call k.State k.Op k.Query k.Reply))
  pub tell : TellScripts k.wording store names scripts
  pub plan : Schedule
  pub planned : TellsValue store (schedule_of (length scripts)) schedule plan

module _ (k : ObjectKind) (init : List ℕ) (s : k.State) (seen : Seen) (status : ℕ) (logs : List ℕ) (names : List (List ℕ))
    (scripts : List (List (Call k.State k.Op k.Query k.Reply))) (plan : Schedule) where
  -- the report of a run that goes on is put; or memory could not be had
  pub record SaysRun (begun : CoreState k.State k.Op k.Query k.Reply) : Type 0 where
    pub crash : RecoversAll k.means (created_heads k.code init scripts) (steps_of k.means begun (turns_of plan.turns))
        (images_of plan.keep (steps_of k.means begun (turns_of plan.turns)).threads)
    pub says : SaysThis seen status Done (replay_report k.means k.wording (Some (length begun.trace))
        (steps_of k.means begun (turns_of plan.turns)) plan.keep (recovered_with crash.recovers.logs crash.recovers.nodes))

  -- so it is where a core goes on; where a script has too many updates, that is said; and nothing else is said
  abbrev pub SaysOn : Result (CoreState k.State k.Op k.Query k.Reply) ResumeFault → Type 0
  SaysOn (Ok begun) = SaysRun begun
  SaysOn (Err (TooMany thread)) = SaysThis seen status Refused (resume_text names (TooMany thread))
  SaysOn (Err fault) = ⊥

module _ (k : ObjectKind) (init : List ℕ) (s : k.State) (seen : Seen) (status : ℕ) (schedule logs : List ℕ) (names : List (List ℕ)) where
  -- From the files of the logs, whatever a crash left of them after any number of generations, these scripts go on: from what the core
  -- went on from, every returned update and all that returned reads saw.
  pub record SaysOnLeft (texts : TellsPlan k seen.store schedule names)
      (left : AreLeftFiles k init s seen.store logs (length names)) : Type 0 where
    pub leaves : FilesLeaveAll k init s seen.store logs (length names) left
    pub says : SaysOn k init s seen status logs names texts.scripts texts.plan (resumed k.means k.code init s left.images texts.scripts)

  abbrev pub GoesOnLeft : Type 0
  GoesOnLeft = (texts : TellsPlan k seen.store schedule names)
      → (left : AreLeftFiles k init s seen.store logs (length names)) → SaysOnLeft texts left

  -- So they do from the logs that a run on threads kept, which give the front of its trace that they recover to, with all that the run
  -- went on from, every answered update and the place of every answered read.
  pub record SaysOnRun (texts : TellsPlan k seen.store schedule names)
      (left : IsLeftByRun k init s seen.store logs (length names)) : Type 0 where
    pub images : List (List (List ℕ))
    pub files : TellLogs seen.store logs 0 images
    pub recovers : ImagesRecover k.means (plan_from left.from k init logs s left.reported.scripts).run left.reported.left images
    pub gives : found_in k.means (heads_from (length names) k.code init 0 (length names)) images
        ≡ Ok (record { logs = recovers.logs; nodes = recovers.nodes })
    pub says : SaysOn k init s seen status logs names texts.scripts texts.plan (resumed k.means k.code init s images texts.scripts)

  abbrev pub GoesOnRun : Type 0
  GoesOnRun = (texts : TellsPlan k seen.store schedule names)
      → (left : IsLeftByRun k init s seen.store logs (length names)) → SaysOnRun texts left

-- a run that goes on, by the words, over the initial state that a file tells, where no call of the store or of the sink failed
abbrev pub RunGoesOn : Seen
    → ((k : ObjectKind) → List ℕ → k.State → (schedule logs : List ℕ) → List (List ℕ) → Type 0) → Type 0
RunGoesOn seen Holds = (init schedule logs bytes : List ℕ) (names : List (List ℕ)) (object : AnyObject)
    → form_of seen.words ≡ Some (Again init schedule logs names)
    → FileIsTold seen.store init bytes → init_of bytes ≡ Ok object → NoneRose seen
    → on_object (λ k s. Holds k bytes s schedule logs names) object

-- What a run that goes on promises beside. What it prints is one run of scripts from what the images gave, every run of which is durable at
-- each step, and what its crash left is in the files and recovers. That logs are bad is said only of those that it read. From the files
-- that a crash or a run on threads left it goes on, unless a script has too many updates.
pub record AgainPromises (seen : Seen) (status : ℕ) : Type 0 where
  pub durable : (init schedule logs : List ℕ) (names : List (List ℕ)) → form_of seen.words ≡ Some (Again init schedule logs names)
      → status ≡ 0 → PutOverInit seen init (λ k bytes s store after text. IsResumedReport k bytes s store schedule logs names after text)
  pub bad_logs : (init schedule logs : List ℕ) (names : List (List ℕ)) → form_of seen.words ≡ Some (Again init schedule logs names)
      → status ≡ 4 → PutOverInit seen init (λ k bytes s store after text. HasBadLogs k bytes s store schedule logs names after text)
  pub left : RunGoesOn seen (λ k bytes s schedule logs names. GoesOnLeft k bytes s seen status schedule logs names)
  pub run : RunGoesOn seen (λ k bytes s schedule logs names. GoesOnRun k bytes s seen status schedule logs names)
