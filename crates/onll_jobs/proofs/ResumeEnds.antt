-- How a run that goes on ends: as a run does, from what the images give; or it is said why they give nothing.

use Rattle.std.proofs.Common.{ℕ, List, [], ◌∷◌, ◌≡◌, ◌⊎◌, inl, inr, length, Some, Result, Ok, Err, refl, sym}
use Rattle.onll_model.specs.declared.call.Call.{Call}
use Rattle.onll_start.specs.declared.fault.ResumeFault.{ResumeFault}
use Rattle.onll_start.specs.declared.fault.ResumeFault.TheVariants.{Images, OldFormat, NotOp, TooMany, NoMemory}
use Rattle.onll_start.specs.Heads.{created_heads}
use Rattle.onll_start.specs.Start.{Found, base_in}
use Rattle.onll_text.specs.declared.any_object.Kind.{Kind}
use Rattle.onll_text.specs.Init.{init_of}
use Rattle.onll_text.specs.Kinds.{ObjectKind, kind_at}
use Rattle.onll_text.specs.Script.{script_of}
use Rattle.onll_text.specs.Wording.{Wording}
use Rattle.onll_outside.specs.Views.{StoreView}
use Rattle.onll_task.specs.declared.ending.Ending.{Ending}
use Rattle.onll_task.specs.declared.ending.Ending.TheVariants.{Done, Usage, Refused, BadLog, WriteFault, Faulty, Judged}
use Rattle.onll_open.specs.Names.{log_names}
use Rattle.onll_task.specs.Images.{images_stage}
use Rattle.onll_task.specs.Job.{Job, Threads, JobEnds}
use Rattle.onll_task.specs.Reading.{RefusesFile}
use Rattle.onll_task.specs.NotResumed.{resume_ending}
use Rattle.onll_task.specs.Scripts.{ReadScripts, scripts_stage}
use Rattle.onll_runner.specs.ResumeJob.{based_task, reopened_task, resume_task}
use Rattle.onll_jobs.specs.Command.{Resume, form_of, ResumeOver, object_task}
use Rattle.onll_jobs.specs.ResumePromises.{ResumedWhole, ResumedBroken, ResumedNoDevice, HasNoBase, HasBadBase, RefusesScript, RefusesByScript, InitRefused}
use Rattle.onll_jobs.specs.RunPromises.{OfText, RunPut}
use Rattle.onll_jobs.specs.Says.{PutWhole}
use Rattle.onll_jobs.specs.Seen.{Seen}
use Rattle.onll_jobs.proofs.RunEnds.{RunEnded, calls_end, whole_of, broken_of, device_of, never_of, over_ends, over_read_put, over_put, over_never}
use Rattle.onll_jobs.proofs.SaidEnds.{IsHeld, IsRead, WholeEnds, ScriptsEnd, whole_or, images_read, scripts_end}

-- how it ended: as a run from what was found, or with a line that says why nothing was
abbrev pub ResumeEnded : (after : StoreView) (ending : Ending) (text : List ℕ) (k : ObjectKind) → List ℕ → k.State → StoreView → List ℕ → List (List ℕ) → Type 0
ResumeEnded after ending text k init s store logs names =
    ((found : Found) × RunEnded (Some found) after ending text k init s store logs names)
    ⊎ HasNoBase k init s store after logs names text ending

-- ---- its stages
module _ (after : StoreView) (ending : Ending) (text : List ℕ) (kind : Kind) (init : List ℕ) (s : (kind_at kind).State) (store : StoreView) (logs : List ℕ) (names : List (List ℕ))
    (scripts : List (List (Call (kind_at kind).State (kind_at kind).Op (kind_at kind).Query (kind_at kind).Reply))) (read : ReadScripts (kind_at kind).wording store names scripts) where
  -- the images were read
  based_ends : (images : List (List (List ℕ))) → (images_stage logs (length scripts)).known store images
      → (r : Result Found ResumeFault) → base_in (kind_at kind).means (created_heads (kind_at kind).code init scripts) scripts images ≡ r
      → JobEnds store after (based_task (kind_at kind) (Threads kind) init logs names s scripts r).job ending text
      → ResumeEnded after ending text (kind_at kind) init s store logs names
  based_ends images held (Ok found) e h =
      inl (found, calls_end (Some found) after ending text kind init s store logs names scripts read (record { images = images; held = held; gives = e }) h)
  based_ends images held (Err fault) e h =
      inr (record { scripts = scripts; read = read; images = images; held = held; fault = fault; refused = e; ends = sym h.0; said = h.1 })

  -- the scripts were read
  pub reopened_ends : IsHeld ending → JobEnds store after (reopened_task (kind_at kind) (Threads kind) init logs names s scripts).job ending text
      → ResumeEnded after ending text (kind_at kind) init s store logs names
  reopened_ends held h =
      let k = kind_at kind in
      let base : List (List (List ℕ)) → Result Found ResumeFault = λ images. base_in k.means (created_heads k.code init scripts) scripts images in
      let taken = images_read after ending text held store (log_names logs 0 (length scripts)) (λ images. (based_task k (Threads kind) init logs names s scripts (base images)).job) h in
      based_ends taken.images taken.known (base taken.images) refl taken.ends

module _ (after : StoreView) (text : List ℕ) where
  resume_ends : (ending : Ending) → IsRead ending → (kind : Kind) (init : List ℕ) (s : (kind_at kind).State) (store : StoreView) (logs : List ℕ) (names : List (List ℕ))
      → JobEnds store after (resume_task (kind_at kind) (Threads kind) init logs names s).job ending text → ResumeEnded after ending text (kind_at kind) init s store logs names
  resume_ends ending was kind init s store logs names h =
      let k = kind_at kind in
      let read = scripts_end after ending text was k.wording store names (λ scripts. (reopened_task k (Threads kind) init logs names s scripts).job) h in
      reopened_ends after ending text kind init s store logs names read.scripts read.read was.0 read.ends

-- ---- a text that is refused
-- a script is refused, or all were read
module _ (after : StoreView) (text : List ℕ) {State Op Query Reply : Type 0} (w : Wording State Op Query Reply) (store : StoreView) where
  abbrev RefusedOr : List (List ℕ) → (List (List (Call State Op Query Reply)) → Job) → Type 0
  RefusedOr names next = RefusesScript w store names text ⊎ ScriptsEnd w store after names next Refused text

  abbrev FirstEnds : List ℕ → List (List ℕ) → (List (List (Call State Op Query Reply)) → Job) → Type 0
  FirstEnds name names next = WholeEnds store after name (script_of w) (λ bytes calls. (scripts_stage w names).job (λ scripts. next (calls ∷ scripts))) Refused text

  rest_or : (name : List ℕ) (names : List (List ℕ)) (next : List (List (Call State Op Query Reply)) → Job) → (first : FirstEnds name names next) → RefusedOr names (λ scripts. next (first.value ∷ scripts)) → RefusedOr (name ∷ names) next
  rest_or name names next first (inl refuses) = inl (inr (first.value, record { bytes = first.bytes; held = first.read.held; accepted = first.read.accepted }, refuses))
  rest_or name names next first (inr rest) =
      inr (record { scripts = first.value ∷ rest.scripts; read = (record { bytes = first.bytes; held = first.read.held; accepted = first.read.accepted }, rest.read); ends = rest.ends })

  first_or : (name : List ℕ) (names : List (List ℕ)) (next : List (List (Call State Op Query Reply)) → Job)
      → ((script : List (Call State Op Query Reply)) → JobEnds store after ((scripts_stage w names).job (λ scripts. next (script ∷ scripts))) Refused text → RefusedOr names (λ scripts. next (script ∷ scripts)))
      → ((Refused ≡ Refused) × RefusesFile store (script_of w) name text) ⊎ FirstEnds name names next → RefusedOr (name ∷ names) next
  first_or name names next go (inl refuses) = inl (inl refuses.1)
  first_or name names next go (inr first) = rest_or name names next first (go first.value first.ends)

  scripts_or : (names : List (List ℕ)) (next : List (List (Call State Op Query Reply)) → Job) → JobEnds store after ((scripts_stage w names).job next) Refused text → RefusedOr names next
  scripts_or [] next h = inr (record { scripts = []; read = tt; ends = h })
  scripts_or (name ∷ names) next h =
      first_or name names next (λ script. scripts_or names (λ scripts. next (script ∷ scripts)))
      (whole_or after Refused text tt store name (script_of w) (λ bytes calls. (scripts_stage w names).job (λ scripts. next (calls ∷ scripts))) h)

module _ (after : StoreView) (text : List ℕ) (kind : Kind) (init : List ℕ) (s : (kind_at kind).State) (store : StoreView) (logs : List ℕ) (names : List (List ℕ)) where
  abbrev RefusedSo : Type 0
  RefusedSo = RefusesByScript (kind_at kind) init s store after logs names text

  base_refused : ResumeEnded after Refused text (kind_at kind) init s store logs names → RefusedSo
  base_refused (inl run) = absurd (never_of (Some run.0) (kind_at kind) init s store after logs names text Refused (λ e. cc e) (λ e. cc e) (λ e. cc e) run.1)
  base_refused (inr none) = inr none

  refused_so : RefusesScript (kind_at kind).wording store names text
      ⊎ ScriptsEnd (kind_at kind).wording store after names (λ scripts. (reopened_task (kind_at kind) (Threads kind) init logs names s scripts).job) Refused text → RefusedSo
  refused_so (inl refuses) = inl refuses
  refused_so (inr read) = base_refused (reopened_ends after Refused text kind init s store logs names read.scripts read.read tt read.ends)

  resume_refused_so : JobEnds store after (resume_task (kind_at kind) (Threads kind) init logs names s).job Refused text → RefusedSo
  resume_refused_so h =
      refused_so (scripts_or after text (kind_at kind).wording store names (λ scripts. (reopened_task (kind_at kind) (Threads kind) init logs names s scripts).job) h)

-- ---- what its ending says
module _ (k : ObjectKind) (init : List ℕ) (s : k.State) (store after : StoreView) (logs : List ℕ) (names : List (List ℕ)) (text : List ℕ) where
  -- where nothing was found, that is all that it says
  base_ending : (fault : ResumeFault) (ending : Ending) → resume_ending fault ≡ ending → (ending ≡ Refused) ⊎ (ending ≡ BadLog)
  base_ending (TooMany thread) ending e = inl (sym e)
  base_ending (Images fault) ending e = inr (sym e)
  base_ending (OldFormat log) ending e = inr (sym e)
  base_ending (NotOp place) ending e = inr (sym e)
  base_ending NoMemory ending e = inr (sym e)

  no_other : (ending : Ending) → (ending ≡ Refused → ⊥) → (ending ≡ BadLog → ⊥) → HasNoBase k init s store after logs names text ending → ⊥
  no_other ending f g none = by (base_ending none.fault ending none.ends)
    where
      by : (ending ≡ Refused) ⊎ (ending ≡ BadLog) → ⊥
      by (inl e) = f e
      by (inr e) = g e

  resumed_whole : ResumeEnded after Done text k init s store logs names → ResumedWhole k init s store after logs names text
  resumed_whole (inl run) = (run.0, whole_of (Some run.0) k init s store after logs names text run.1)
  resumed_whole (inr none) = absurd (no_other Done (λ e. cc e) (λ e. cc e) none)

  resumed_broken : ResumeEnded after Faulty text k init s store logs names → ResumedBroken k init s store after logs names text
  resumed_broken (inl run) = (run.0, broken_of (Some run.0) k init s store after logs names text run.1)
  resumed_broken (inr none) = absurd (no_other Faulty (λ e. cc e) (λ e. cc e) none)

  resumed_device : ResumeEnded after WriteFault text k init s store logs names → ResumedNoDevice k init s store after logs names text
  resumed_device (inl run) = (run.0, device_of (Some run.0) k init s store after logs names text run.1)
  resumed_device (inr none) = absurd (no_other WriteFault (λ e. cc e) (λ e. cc e) none)

  resumed_bad : ResumeEnded after BadLog text k init s store logs names → HasBadBase k init s store after logs names text
  resumed_bad (inl run) = absurd (never_of (Some run.0) k init s store after logs names text BadLog (λ e. cc e) (λ e. cc e) (λ e. cc e) run.1)
  resumed_bad (inr none) = none

  resumed_usage : ResumeEnded after Usage text k init s store logs names → ⊥
  resumed_usage (inl run) = never_of (Some run.0) k init s store after logs names text Usage (λ e. cc e) (λ e. cc e) (λ e. cc e) run.1
  resumed_usage (inr none) = no_other Usage (λ e. cc e) (λ e. cc e) none

  resumed_judged : ResumeEnded after Judged text k init s store logs names → ⊥
  resumed_judged (inl run) = never_of (Some run.0) k init s store after logs names text Judged (λ e. cc e) (λ e. cc e) (λ e. cc e) run.1
  resumed_judged (inr none) = no_other Judged (λ e. cc e) (λ e. cc e) none

-- ---- the call
module _ (seen : Seen) (init logs : List ℕ) (names : List (List ℕ)) (form : form_of seen.words ≡ Some (Resume init logs names)) where
  resume_put : (ending : Ending) → IsRead ending → (h : PutWhole seen ending)
      → (Ran : OfText)
      → ((k : ObjectKind) (bytes : List ℕ) (s : k.State) → ResumeEnded seen.store_after ending h.text k bytes s seen.store logs names → Ran k bytes s seen.store seen.store_after logs names h.text)
      → RunPut seen init logs names Ran
  resume_put ending was h Ran f =
      over_put seen init logs names (ResumeOver logs names) form ending was h Ran
      (λ kind bytes s e. f (kind_at kind) bytes s (resume_ends seen.store_after h.text ending was kind bytes s seen.store logs names e))

  pub resume_whole : PutWhole seen Done → RunPut seen init logs names ResumedWhole
  resume_whole h = resume_put Done (tt, λ e. cc e) h ResumedWhole (λ k bytes s e. resumed_whole k bytes s seen.store seen.store_after logs names h.text e)

  pub resume_broken : PutWhole seen Faulty → RunPut seen init logs names ResumedBroken
  resume_broken h = resume_put Faulty (tt, λ e. cc e) h ResumedBroken (λ k bytes s e. resumed_broken k bytes s seen.store seen.store_after logs names h.text e)

  pub resume_no_device : PutWhole seen WriteFault → RunPut seen init logs names ResumedNoDevice
  resume_no_device h = resume_put WriteFault (tt, λ e. cc e) h ResumedNoDevice (λ k bytes s e. resumed_device k bytes s seen.store seen.store_after logs names h.text e)

  pub resume_bad : PutWhole seen BadLog → RunPut seen init logs names HasBadBase
  resume_bad h = resume_put BadLog (tt, λ e. cc e) h HasBadBase (λ k bytes s e. resumed_bad k bytes s seen.store seen.store_after logs names h.text e)

  -- the usage is never said
  pub resume_not_usage : PutWhole seen Usage → ⊥
  resume_not_usage h =
      over_never seen init logs names (ResumeOver logs names) form Usage (tt, λ e. cc e) h
      (λ kind bytes s e. resumed_usage (kind_at kind) bytes s seen.store seen.store_after logs names h.text
      (resume_ends seen.store_after h.text Usage (tt, λ e. cc e) kind bytes s seen.store logs names e))

  -- nor is a report judged
  pub resume_not_judged : PutWhole seen Judged → ⊥
  resume_not_judged h =
      over_never seen init logs names (ResumeOver logs names) form Judged (tt, λ e. cc e) h
      (λ kind bytes s e. resumed_judged (kind_at kind) bytes s seen.store seen.store_after logs names h.text
      (resume_ends seen.store_after h.text Judged (tt, λ e. cc e) kind bytes s seen.store logs names e))

  -- a text is refused, or a script has too many updates
  pub resume_refused : PutWhole seen Refused → InitRefused seen init ⊎ RunPut seen init logs names RefusesByScript
  resume_refused h =
      by (whole_or seen.store_after Refused h.text tt seen.store init init_of (λ bytes object. (object_task (ResumeOver logs names) bytes object).job)
      (over_ends seen init logs names (ResumeOver logs names) form Refused h))
    where
      by : ((Refused ≡ Refused) × RefusesFile seen.store init_of init h.text) ⊎ WholeEnds seen.store seen.store_after init init_of (λ bytes object. (object_task (ResumeOver logs names) bytes object).job) Refused h.text
          → InitRefused seen init ⊎ RunPut seen init logs names RefusesByScript
      by (inl refuses) = inl (record { text = h.text; refuses = refuses.1; put = h.put })
      by (inr read) =
          inr (over_read_put seen init logs names (ResumeOver logs names) form Refused h RefusesByScript
          (λ kind bytes s e. resume_refused_so seen.store_after h.text kind bytes s seen.store logs names e) read)
