-- What `resume` says of the run that goes on.

use Rattle.std.specs.Prelude.{ℕ, ◌≡◌, ◌⊎◌, List, [], ◌∷◌, length, Some, Result, Ok, Err}
use Rattle.onll_model.specs.declared.call.Call.{Call}
use Rattle.onll_start.specs.declared.fault.ResumeFault.{ResumeFault}
use Rattle.onll_start.specs.declared.fault.ResumeFault.TheVariants.{TooMany}
use Rattle.onll_start.specs.Heads.{created_heads}
use Rattle.onll_log.specs.Head.{heads_from}
use Rattle.onll_start.specs.Start.{Found, found_in, base_in}
use Rattle.onll_run.specs.Left.{ImagesRecover}
use Rattle.onll_text.specs.declared.any_object.AnyObject.{AnyObject}
use Rattle.onll_text.specs.Init.{init_of}
use Rattle.onll_text.specs.Kinds.{ObjectKind, on_object}
use Rattle.onll_text.specs.Script.{script_of}
use Rattle.onll_text.specs.Wording.{Wording}
use Rattle.onll_outside.specs.Views.{StoreView, Puts}
use Rattle.onll_task.specs.declared.ending.Ending.{Ending}
use Rattle.onll_task.specs.declared.ending.Ending.TheVariants.{Refused, BadLog}
use Rattle.onll_task.specs.Images.{images_stage}
use Rattle.onll_task.specs.Reading.{FileIsTold, Reads, RefusesFile}
use Rattle.onll_task.specs.NotResumed.{resume_ending, resume_text}
use Rattle.onll_task.specs.Scripts.{ReadScripts}
use Rattle.onll_jobs.specs.AgainPromises.{TellScripts}
use Rattle.onll_jobs.specs.Command.{Resume, form_of}
use Rattle.onll_eras.specs.Restored.{TellLogs}
use Rattle.onll_jobs.specs.Durable.{AreLeftFiles, FilesLeaveAll}
use Rattle.onll_jobs.specs.RunPromises.{RanWhole, RanBroken, HasNoDevice, HasCut, OfFiles, RunIsCut, RunPut, SaysRan, plan_from}
use Rattle.onll_jobs.specs.RunRecovers.{IsLeftByRun}
use Rattle.onll_jobs.specs.Says.{NoneRose, SaysThis, SinkFailed}
use Rattle.onll_jobs.specs.Seen.{Seen}

-- ---- what is said
module _ (k : ObjectKind) (init : List ℕ) (s : k.State) (store after : StoreView) (logs : List ℕ) (names : List (List ℕ))
    (text : List ℕ) where
  -- from what the files give, this text is a report of a run in which no fence failed
  abbrev pub ResumedWhole : Type 0
  ResumedWhole = (found : Found) × RanWhole (Some found) k init s store after logs names text

  -- or one in which fences failed, or the line of a header whose fence failed
  abbrev pub ResumedBroken : Type 0
  ResumedBroken = (found : Found) × RanBroken (Some found) k init s store after logs names text

  -- or the line of a device that could not be made or kept
  abbrev pub ResumedNoDevice : Type 0
  ResumedNoDevice = (found : Found) × HasNoDevice (Some found) k init s store after logs names text

  -- Nothing goes on from the images in the files of the logs, and this text says why: what is wrong with the logs, or that a script
  -- has too many updates.
  pub record HasNoBase (ending : Ending) : Type 0 where
    pub scripts : List (List (Call k.State k.Op k.Query k.Reply))
    pub read : ReadScripts k.wording store names scripts
    pub images : List (List (List ℕ))
    pub held : (images_stage logs (length scripts)).known store images
    pub fault : ResumeFault
    pub refused : base_in k.means (created_heads k.code init scripts) scripts images ≡ Err fault
    pub ends : resume_ending fault ≡ ending
    pub said : text ≡ resume_text names fault

  abbrev pub HasBadBase : Type 0
  HasBadBase = HasNoBase BadLog

-- from what the files give a run went on, and was cut
abbrev pub ResumedCut : OfFiles
ResumedCut k init s store after logs names = (found : Found) × HasCut (Some found) k init s store after logs names

-- this text refuses a script, and those before it are accepted
abbrev pub RefusesScript : {State Op Query Reply : Type 0} → Wording State Op Query Reply → StoreView → List (List ℕ) → List ℕ → Type 0
RefusesScript w store [] text = ⊥
RefusesScript {State} {Op} {Query} {Reply} w store (name ∷ names) text = RefusesFile store (script_of w) name text
    ⊎ ((script : List (Call State Op Query Reply)) × Reads store (script_of w) name script × RefusesScript w store names text)

-- this text refuses the first script that is refused; or, where all are accepted, one that has too many updates
abbrev pub RefusesByScript : (k : ObjectKind) → List ℕ → k.State → StoreView → StoreView → List ℕ → List (List ℕ) → List ℕ → Type 0
RefusesByScript k init s store after logs names text =
    RefusesScript k.wording store names text ⊎ HasNoBase k init s store after logs names text Refused

-- the initial state is refused, which was put
pub record InitRefused (seen : Seen) (init : List ℕ) : Type 0 where
  pub text : List ℕ
  pub refuses : RefusesFile seen.store init_of init text
  pub put : Puts seen.sink seen.sink_after text

-- ---- when it is done
module _ (k : ObjectKind) (init : List ℕ) (s : k.State) (seen : Seen) (status : ℕ) (logs : List ℕ) (names : List (List ℕ)) where
  -- the report of a run is put where images give something to go on from; where a script has too many updates, that is said; and nothing
  -- else is said
  abbrev pub SaysFrom : Result Found ResumeFault → Type 0
  SaysFrom (Ok found) = SaysRan k init s seen status logs names (Some found)
  SaysFrom (Err (TooMany thread)) = SaysThis seen status Refused (resume_text names (TooMany thread))
  SaysFrom (Err fault) = ⊥

  -- what images give to these scripts
  abbrev pub base_of : List (List (Call k.State k.Op k.Query k.Reply)) → List (List (List ℕ)) → Result Found ResumeFault
  base_of scripts images = base_in k.means (created_heads k.code init scripts) scripts images

  -- From the files of the logs, whatever a crash left of them after any number of generations, these scripts go on: from what the core
  -- went on from, every returned update and all that returned reads saw.
  pub record SaysFromLeft (scripts : List (List (Call k.State k.Op k.Query k.Reply)))
      (left : AreLeftFiles k init s seen.store logs (length names)) : Type 0 where
    pub leaves : FilesLeaveAll k init s seen.store logs (length names) left
    pub says : SaysFrom (base_of scripts left.images)

  abbrev pub ResumesLeft : Type 0
  ResumesLeft = (scripts : List (List (Call k.State k.Op k.Query k.Reply))) → TellScripts k.wording seen.store names scripts
      → (left : AreLeftFiles k init s seen.store logs (length names)) → SaysFromLeft scripts left

  -- So they do from the logs that a run on threads kept, which give the front of its trace that they recover to, with all that the run
  -- went on from, every answered update and the place of every answered read.
  pub record SaysFromRun (scripts : List (List (Call k.State k.Op k.Query k.Reply)))
      (left : IsLeftByRun k init s seen.store logs (length names)) : Type 0 where
    pub images : List (List (List ℕ))
    pub files : TellLogs seen.store logs 0 images
    pub recovers : ImagesRecover k.means (plan_from left.from k init logs s left.reported.scripts).run left.reported.left images
    pub gives : found_in k.means (heads_from (length names) k.code init 0 (length names)) images
        ≡ Ok (record { logs = recovers.logs; nodes = recovers.nodes })
    pub says : SaysFrom (base_of scripts images)

  abbrev pub ResumesRun : Type 0
  ResumesRun = (scripts : List (List (Call k.State k.Op k.Query k.Reply))) → TellScripts k.wording seen.store names scripts
      → (left : IsLeftByRun k init s seen.store logs (length names)) → SaysFromRun scripts left

-- a run that goes on, by the words, over the initial state that a file tells, where no call of the store or of the sink failed
abbrev pub Resumes : Seen → ((k : ObjectKind) → List ℕ → k.State → (logs : List ℕ) → List (List ℕ) → Type 0) → Type 0
Resumes seen Holds = (init logs bytes : List ℕ) (names : List (List ℕ)) (object : AnyObject)
    → form_of seen.words ≡ Some (Resume init logs names)
    → FileIsTold seen.store init bytes → init_of bytes ≡ Ok object → NoneRose seen
    → on_object (λ k s. Holds k bytes s logs names) object

-- What a run that goes on promises beside, for any store: what is printed is what its threads did from what the logs gave, which the
-- store keeps. Where a fence or a device failed that is said. No log loses what it held, also where a device or memory could not be had:
-- its file begins with that, or holds an image of the log that the run left. A text is refused, or a script for too many updates; that
-- logs are bad is said only of those that it read. From the files that crashes or a run left it goes on, unless a script has too many
-- updates.
pub record ResumePromises (seen : Seen) (status : ℕ) : Type 0 where
  pub whole : (init logs : List ℕ) (names : List (List ℕ)) → form_of seen.words ≡ Some (Resume init logs names)
      → status ≡ 0 → RunPut seen init logs names ResumedWhole
  pub broken : (init logs : List ℕ) (names : List (List ℕ)) → form_of seen.words ≡ Some (Resume init logs names)
      → status ≡ 7 → RunPut seen init logs names ResumedBroken
  pub device : (init logs : List ℕ) (names : List (List ℕ)) → form_of seen.words ≡ Some (Resume init logs names)
      → status ≡ 6 → SinkFailed seen ⊎ RunPut seen init logs names ResumedNoDevice
  pub refused : (init logs : List ℕ) (names : List (List ℕ)) → form_of seen.words ≡ Some (Resume init logs names)
      → status ≡ 3 → InitRefused seen init ⊎ RunPut seen init logs names RefusesByScript
  pub bad_logs : (init logs : List ℕ) (names : List (List ℕ)) → form_of seen.words ≡ Some (Resume init logs names)
      → status ≡ 4 → RunPut seen init logs names HasBadBase
  pub memory : (init logs : List ℕ) (names : List (List ℕ)) → form_of seen.words ≡ Some (Resume init logs names)
      → status ≡ 9 → RunIsCut seen init logs names ResumedCut
  pub left : Resumes seen (λ k bytes s logs names. ResumesLeft k bytes s seen status logs names)
  pub run : Resumes seen (λ k bytes s logs names. ResumesRun k bytes s seen status logs names)
