-- What `audit` says of a report, and what it says of those that `run` prints.

use Rattle.std.specs.Prelude.{ℕ, List, ◌≡◌, ◌⊎◌, Some, None, Ok}
use Rattle.onll_words.specs.Texts.{line_text}
use Rattle.onll_model.specs.declared.call.Call.{Call}
use Rattle.onll_run.specs.Left.{HasRun}
use Rattle.onll_text.specs.declared.any_object.AnyObject.{AnyObject}
use Rattle.onll_text.specs.Init.{init_of}
use Rattle.onll_text.specs.Kinds.{ObjectKind, on_object}
use Rattle.onll_audit.specs.declared.verdict.Verdict.TheVariants.{Legal, Wrong}
use Rattle.onll_audit.specs.declared.verdict.Why.{Why}
use Rattle.onll_audit.specs.Legality.{IsLegalReport}
use Rattle.onll_audit.specs.Verdict.{verdict_of}
use Rattle.onll_outside.specs.Views.{StoreView}
use Rattle.onll_task.specs.declared.ending.Ending.TheVariants.{Done}
use Rattle.onll_task.specs.Reading.{FileIsTold, ReadsWhole}
use Rattle.onll_task.specs.Running.{RunLeft, PlanReads}
use Rattle.onll_task.specs.Scripts.{ReadScripts}
use Rattle.onll_runner.specs.RunJob.{run_plan}
use Rattle.onll_runner.specs.RunReport.{plan_report}
use Rattle.onll_jobs.specs.AgainPromises.{TellScripts}
use Rattle.onll_jobs.specs.AuditJob.{judged_of, legal_text, wrong_line}
use Rattle.onll_jobs.specs.Command.{Audit, Run, form_of}
use Rattle.onll_jobs.specs.RunPromises.{HasNoHeader, HasReported, RunPut}
use Rattle.onll_jobs.specs.Says.{NoneRose, PutOverInit, SaysThis}
use Rattle.onll_jobs.specs.Seen.{Seen}

-- ---- what is said
module _ (report : List ℕ) (names : List (List ℕ)) (k : ObjectKind) (init : List ℕ) (s : k.State) (store after : StoreView)
    (text : List ℕ) where
  -- The files hold scripts and a report of a run of these, and all that it says is one legal history of the object from the initial
  -- state on. The text says that it is legal.
  pub record HasFoundLegal : Type 0 where
    pub scripts : List (List (Call k.State k.Op k.Query k.Reply))
    pub read : ReadScripts k.wording store names scripts
    pub bytes : List ℕ
    pub judged : ReadsWhole store (judged_of k s scripts) report bytes Legal
    pub is_legal : IsLegalReport k.means k.wording s scripts bytes
    pub says : text ≡ legal_text

  -- They hold scripts and a report that is not legal. The text says which line of it is the least wrong one, and the first reason.
  pub record HasFoundWrong : Type 0 where
    pub scripts : List (List (Call k.State k.Op k.Query k.Reply))
    pub read : ReadScripts k.wording store names scripts
    pub bytes : List ℕ
    pub line : ℕ
    pub why : Why
    pub judged : ReadsWhole store (judged_of k s scripts) report bytes (Wrong line why)
    pub is_wrong : verdict_of k.means k.wording s scripts bytes ≡ Ok (Wrong line why)
    pub not_legal : IsLegalReport k.means k.wording s scripts bytes → ⊥
    pub says : text ≡ line_text (wrong_line line why)

-- the words are those of an audit
pub record IsOfAudit (seen : Seen) : Type 0 where
  pub init : List ℕ
  pub report : List ℕ
  pub names : List (List ℕ)
  pub form : form_of seen.words ≡ Some (Audit init report names)

-- ---- the reports of `run`
-- The other files tell scripts, and that of the report what `run` prints of a run of these from this state, by all that such a run may
-- leave. This holds of each report that `run` puts with status 0, and with status 7 but for a header's line.
pub record IsReportOfRun (k : ObjectKind) (init : List ℕ) (s : k.State) (store : StoreView) (report : List ℕ)
    (names : List (List ℕ)) : Type 0 where
  pub scripts : List (List (Call k.State k.Op k.Query k.Reply))
  pub tell : TellScripts k.wording store names scripts
  pub logs : List ℕ
  pub left : RunLeft k
  pub run : HasRun k.means (run_plan k init logs s scripts).run left
  pub reads : PlanReads (run_plan k init logs s scripts) left
  pub told : FileIsTold store report (plan_report (run_plan k init logs s scripts) left)

-- it is found legal, over the initial state that a file tells, where no call of the store or of the sink failed; or memory could not
-- be had
abbrev pub FindsRunsLegal : Seen → ℕ → Type 0
FindsRunsLegal seen status = (init report bytes : List ℕ) (names : List (List ℕ)) (object : AnyObject)
    → form_of seen.words ≡ Some (Audit init report names)
    → FileIsTold seen.store init bytes → init_of bytes ≡ Ok object → NoneRose seen
    → on_object (λ k s. IsReportOfRun k bytes s seen.store report names → SaysThis seen status Done legal_text) object

-- the text is the report of a run of the scripts that the files hold, and is judged legal by these
module _ (k : ObjectKind) (init : List ℕ) (s : k.State) (store after : StoreView) (logs : List ℕ) (names : List (List ℕ))
    (text : List ℕ) where
  pub record HasLegalReport : Type 0 where
    pub reported : HasReported None k init s store after logs names text
    pub legal : judged_of k s reported.scripts text ≡ Ok Legal

  -- it is, or it is the line of a header whose fence failed
  abbrev pub HasLegalOrNoHeader : Type 0
  HasLegalOrNoHeader = HasLegalReport ⊎ HasNoHeader None k init s store after logs names text

-- So is what a run puts with status 0, and with status 7 unless it is such a line.
abbrev pub RunIsLegal : Seen → ℕ → Type 0
RunIsLegal seen status = (init logs : List ℕ) (names : List (List ℕ)) → form_of seen.words ≡ Some (Run init logs names)
    → ((status ≡ 0) → RunPut seen init logs names HasLegalReport) × ((status ≡ 7) → RunPut seen init logs names HasLegalOrNoHeader)

-- What an audit promises beside. It says that a report is legal where it is, and with status 8 that it is not, which no other call
-- ends with. Every report of a run is found legal, and so is what a run puts.
pub record AuditPromises (seen : Seen) (status : ℕ) : Type 0 where
  pub done : (init report : List ℕ) (names : List (List ℕ)) → form_of seen.words ≡ Some (Audit init report names)
      → status ≡ 0 → PutOverInit seen init (HasFoundLegal report names)
  pub wrong : (init report : List ℕ) (names : List (List ℕ)) → form_of seen.words ≡ Some (Audit init report names)
      → status ≡ 8 → PutOverInit seen init (HasFoundWrong report names)
  pub only : status ≡ 8 → IsOfAudit seen
  pub run : FindsRunsLegal seen status
  pub put : RunIsLegal seen status
