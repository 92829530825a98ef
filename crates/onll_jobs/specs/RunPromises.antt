-- What `run` and `resume` say of what their threads did.

use Rattle.std.specs.Prelude.{ℕ, ◌≡◌, ◌<◌, ◌≤◌, ◌^◌, ◌⊎◌, List, length, Option, Some, None, Result, Ok}
use Rattle.std.specs.List.{AllByRecursion}
use Rattle.onll_model.specs.declared.call.Call.{Call}
use Rattle.onll_model.specs.declared.call.CallEnd.{CallEnd}
use Rattle.onll_start.specs.Heads.{created_heads}
use Rattle.onll_start.specs.Start.{Found, base_in}
use Rattle.onll_run.specs.Left.{HasRun}
use Rattle.onll_text.specs.Refusal.{Refusal}
use Rattle.onll_text.specs.Script.{script_of}
use Rattle.onll_text.specs.Init.{init_of}
use Rattle.onll_text.specs.declared.any_object.AnyObject.{AnyObject}
use Rattle.onll_text.specs.Kinds.{ObjectKind, on_object}
use Rattle.onll_outside.specs.Views.{StoreView, Puts, WentUp, counted}
use Rattle.onll_task.specs.Images.{images_stage}
use Rattle.onll_task.specs.Reading.{FileIsTold, ReadsWhole}
use Rattle.onll_task.specs.Running.{RunPlan, RunLeft, PlanReads, HasKept, HeaderFault, DeviceFault, RunCut}
use Rattle.onll_task.specs.Writing.{FilesStay}
use Rattle.onll_task.specs.Scripts.{ReadScripts}
use Rattle.onll_runner.specs.ResumeJob.{resume_plan}
use Rattle.onll_runner.specs.RunJob.{run_plan}
use Rattle.onll_runner.specs.RunReport.{fault_lines, plan_report}
use Rattle.onll_eras.specs.Names.{EraNames}
use Rattle.onll_jobs.specs.Command.{Run, Resume, Checkpoint, form_of}
use Rattle.onll_jobs.specs.Says.{NoneRose, PutOverInit, SinkFailed}
use Rattle.onll_jobs.specs.Seen.{Seen}

-- so many fault lines are in the report of a run with these outcomes
abbrev pub fault_count : {State Op Query Reply : Type 0} → List (List (CallEnd State Op Query Reply)) → ℕ
fault_count ends = length (fault_lines 0 ends)

-- ---- what a run begins from
-- what is run of these scripts: they go on from what was found, or begin anew where nothing was looked for
abbrev pub plan_from : Option Found → (k : ObjectKind) → (init logs : List ℕ) → k.State
    → List (List (Call k.State k.Op k.Query k.Reply)) → RunPlan k
plan_from None k init logs s scripts = run_plan k init logs s scripts
plan_from (Some found) k init logs s scripts = resume_plan k init logs s scripts found

-- this is what the images in the files of the logs give to the scripts
pub record GivesBase (k : ObjectKind) (init : List ℕ) (store : StoreView) (logs : List ℕ)
    (scripts : List (List (Call k.State k.Op k.Query k.Reply))) (found : Found) : Type 0 where
  pub images : List (List (List ℕ))
  pub held : (images_stage logs (length scripts)).known store images
  pub gives : base_in k.means (created_heads k.code init scripts) scripts images ≡ Ok found

-- the files give what is gone on from; nothing is asked of them where scripts begin anew
abbrev pub BeginsFrom : Option Found → (k : ObjectKind) → List ℕ → StoreView → List ℕ
    → List (List (Call k.State k.Op k.Query k.Reply)) → Type 0
BeginsFrom None k init store logs scripts = Unit {0}
BeginsFrom (Some found) k init store logs scripts = GivesBase k init store logs scripts found

-- ---- what is said
module _ (from : Option Found) (k : ObjectKind) (init : List ℕ) (s : k.State) (store after : StoreView) (logs : List ℕ)
    (names : List (List ℕ)) (text : List ℕ) where
  -- This text is the report of a run, on threads, of the scripts that the files hold, from what the files give to go on from, if
  -- anything. What the run left is one legal history which begins with that, with one fence for each update, and logs that recover to a
  -- front of it whatever a crash leaves of them (`HasRun`); the store keeps those logs. All that the report says of it reads back. By
  -- its fault lines the store's count of device faults rose.
  pub record HasReported : Type 0 where
    pub scripts : List (List (Call k.State k.Op k.Query k.Reply))
    pub many : length scripts ≡ length names
    pub read : ReadScripts k.wording store names scripts
    pub begins : BeginsFrom from k init store logs scripts
    pub left : RunLeft k
    pub run : HasRun k.means (plan_from from k init logs s scripts).run left
    pub reads : PlanReads (plan_from from k init logs s scripts) left
    pub kept : HasKept (plan_from from k init logs s scripts) left store after
    pub printed : text ≡ plan_report (plan_from from k init logs s scripts) left
    pub rose : after.device_faults ≡ counted store.device_faults (fault_count left.ends)

  -- The fence of a thread's header failed, and this text says which. A log that is gone on from still begins with what it held; the file
  -- of one that is begun may hold its header.
  pub record HasNoHeader : Type 0 where
    pub scripts : List (List (Call k.State k.Op k.Query k.Reply))
    pub read : ReadScripts k.wording store names scripts
    pub begins : BeginsFrom from k init store logs scripts
    pub fault : HeaderFault (plan_from from k init logs s scripts) store after text

  -- A thread's device could not be made or kept, and this text says which. Where it could not be made, each log begins with what it held;
  -- where it could not be kept, each log before it is kept, and each other one too, or it begins with what it held.
  pub record HasNoDevice : Type 0 where
    pub scripts : List (List (Call k.State k.Op k.Query k.Reply))
    pub read : ReadScripts k.wording store names scripts
    pub begins : BeginsFrom from k init store logs scripts
    pub fault : DeviceFault (plan_from from k init logs s scripts) store after text

  -- a report of a run in which no fence failed, with no fault line
  abbrev pub RanWhole : Type 0
  RanWhole = (r : HasReported) × (fault_count r.left.ends ≡ 0)

  -- one in which fences failed, with their lines; or the line of a header whose fence failed
  abbrev pub RanBroken : Type 0
  RanBroken = ((r : HasReported) × (1 ≤ fault_count r.left.ends)) ⊎ HasNoHeader

module _ (from : Option Found) (k : ObjectKind) (init : List ℕ) (s : k.State) (store after : StoreView) (logs : List ℕ)
    (names : List (List ℕ)) where
  -- Memory could not be had after the files were read: no file changed; or no device was kept, and each log that is gone on from still
  -- begins with what it held; or what the run left is kept up to some thread's log, and each of those after it too, or it stands so; or it
  -- is kept whole.
  pub record HasCut : Type 0 where
    pub scripts : List (List (Call k.State k.Op k.Query k.Reply))
    pub read : ReadScripts k.wording store names scripts
    pub begins : BeginsFrom from k init store logs scripts
    pub cut : RunCut (plan_from from k init logs s scripts) store after (λ left kept. FilesStay kept after)

-- what is said of files, by the kind of object, the bytes of its initial state, that state, the store before and after, and the names of
-- the logs and of the scripts
abbrev pub OfFiles : Type 1
OfFiles = (k : ObjectKind) → List ℕ → k.State → StoreView → StoreView → List ℕ → List (List ℕ) → Type 0

-- what is left of a run over the initial state that a file holds
pub record LeftOverInit (seen : Seen) (init logs : List ℕ) (names : List (List ℕ)) (Left : OfFiles) : Type 0 where
  pub bytes : List ℕ
  pub object : AnyObject
  pub read : ReadsWhole seen.store init_of init bytes object
  pub left : on_object (λ k s. Left k bytes s seen.store seen.store_after logs names) object

-- a run was cut: no file changed, or this is left of it
abbrev pub RunIsCut : (seen : Seen) → (init logs : List ℕ) → List (List ℕ) → OfFiles → Type 0
RunIsCut seen init logs names Left = FilesStay seen.store seen.store_after ⊎ LeftOverInit seen init logs names Left

-- what is said of a text, by the kind of object, the bytes of its initial state, that state, the store before and after, and the names of
-- the logs and of the scripts
abbrev pub OfText : Type 1
OfText = (k : ObjectKind) → List ℕ → k.State → StoreView → StoreView → List ℕ → List (List ℕ) → List ℕ → Type 0

-- a run over the initial state that a file holds, and what was put of it
abbrev pub RunPut : (seen : Seen) → (init logs : List ℕ) → List (List ℕ) → OfText → Type 0
RunPut seen init logs names Ran = PutOverInit seen init (λ k bytes s store after text. Ran k bytes s store after logs names text)

-- ---- when a run is done
-- the store's count of device faults rose, where it is a count of 64 bits
abbrev pub DeviceFailed : Seen → Type 0
DeviceFailed seen = seen.store.device_faults < 2 ^ 64 → WentUp seen.store.device_faults seen.store_after.device_faults

module _ (k : ObjectKind) (init : List ℕ) (s : k.State) (seen : Seen) (status : ℕ) (logs : List ℕ) (names : List (List ℕ)) where
  -- what was put of a run over this state
  pub record HasPut (Ran : OfText) : Type 0 where
    pub text : List ℕ
    pub ran : Ran k init s seen.store seen.store_after logs names text
    pub put : Puts seen.sink seen.sink_after text

  -- The report of a run from this is put, in which no fence failed, or one did, or a header's, which the store counted; or memory could
  -- not be had.
  abbrev pub SaysRan : Option Found → Type 0
  SaysRan from = ((status ≡ 0) × HasPut (RanWhole from)) ⊎ ((status ≡ 7) × HasPut (RanBroken from) × DeviceFailed seen) ⊎ (status ≡ 9)

-- the named file is told, and its text is accepted
pub record TellsText {A : Type 0} (store : StoreView) (grammar : List ℕ → Result A Refusal) (name : List ℕ) : Type 0 where
  pub bytes : List ℕ
  pub value : A
  pub told : FileIsTold store name bytes
  pub accepted : grammar bytes ≡ Ok value

-- so are an initial state and scripts for its kind of object
pub record TellsTexts (store : StoreView) (init : List ℕ) (names : List (List ℕ)) : Type 0 where
  pub state : TellsText store init_of init
  pub scripts : on_object (λ k s. AllByRecursion (TellsText store (script_of k.wording)) names) state.value

-- no fence failed, or one did; or memory could not be had
abbrev pub IsRun : Seen → ℕ → Type 0
IsRun seen status = (status ≡ 0) ⊎ ((status ≡ 7) × DeviceFailed seen) ⊎ (status ≡ 9)

-- the words are those of a run, which begins anew or goes on
pub record AreRunWords (seen : Seen) : Type 0 where
  pub init : List ℕ
  pub logs : List ℕ
  pub names : List (List ℕ)
  pub form : (form_of seen.words ≡ Some (Run init logs names)) ⊎ (form_of seen.words ≡ Some (Resume init logs names))

-- the words are those of a checkpoint
pub record IsOfCheckpoint (seen : Seen) : Type 0 where
  pub names : EraNames
  pub threads : ℕ
  pub form : form_of seen.words ≡ Some (Checkpoint names threads)

-- What a run promises beside, for any store: what is printed is what its threads did, which the store keeps. Where a fence failed the
-- status says so, and that of no other call does but of a run that goes on and of a checkpoint. Where a device failed that is said, or the
-- sink failed. Its logs never fail to recover. Where memory could not be had, its files are as they were or hold zeros, or the run's
-- logs. Where its texts are accepted and no call of the store or of the sink failed, it is run to its end.
pub record RunPromises (seen : Seen) (status : ℕ) : Type 0 where
  pub whole : (init logs : List ℕ) (names : List (List ℕ)) → form_of seen.words ≡ Some (Run init logs names)
      → status ≡ 0 → RunPut seen init logs names (RanWhole None)
  pub broken : (init logs : List ℕ) (names : List (List ℕ)) → form_of seen.words ≡ Some (Run init logs names)
      → status ≡ 7 → RunPut seen init logs names (RanBroken None)
  pub only : status ≡ 7 → AreRunWords seen ⊎ IsOfCheckpoint seen
  pub device : (init logs : List ℕ) (names : List (List ℕ)) → form_of seen.words ≡ Some (Run init logs names)
      → status ≡ 6 → SinkFailed seen ⊎ RunPut seen init logs names (HasNoDevice None)
  pub recovers : (init logs : List ℕ) (names : List (List ℕ)) → form_of seen.words ≡ Some (Run init logs names)
      → status ≡ 4 → ⊥
  pub memory : (init logs : List ℕ) (names : List (List ℕ)) → form_of seen.words ≡ Some (Run init logs names)
      → status ≡ 9 → RunIsCut seen init logs names (HasCut None)
  pub done : (init logs : List ℕ) (names : List (List ℕ)) → form_of seen.words ≡ Some (Run init logs names)
      → TellsTexts seen.store init names → NoneRose seen → IsRun seen status
