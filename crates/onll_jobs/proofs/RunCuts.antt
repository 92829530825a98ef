-- What a run leaves where memory could not be had: each text and each image that it reads was read, and then it was cut; or no file changed.

use Rattle.std.proofs.Common.{ℕ, zero, suc, List, [], ◌∷◌, ◌≡◌, ◌⊎◌, inl, inr, length, Option, Some, None, Result, Ok, Err, refl, subst}
use Rattle.onll_model.specs.declared.call.Call.{Call}
use Rattle.onll_log.specs.ImageFile.{image_lines}
use Rattle.onll_start.specs.declared.fault.ResumeFault.{ResumeFault}
use Rattle.onll_start.specs.Heads.{created_heads}
use Rattle.onll_start.specs.Start.{Found, base_in}
use Rattle.onll_text.specs.declared.any_object.AnyObject.{AnyObject}
use Rattle.onll_text.specs.declared.any_object.Kind.{Kind}
use Rattle.onll_text.specs.Init.{init_of}
use Rattle.onll_text.specs.Kinds.{ObjectKind, kind_at, on_object}
use Rattle.onll_text.specs.Refusal.{Refusal}
use Rattle.onll_text.specs.Script.{script_of}
use Rattle.onll_text.specs.Wording.{Wording}
use Rattle.onll_text.proofs.EachKind.{kind_goes}
use Rattle.onll_outside.specs.Views.{StoreView}
use Rattle.onll_task.specs.Doing.{Task, lines_stage, each_job, AreKnown}
use Rattle.onll_open.specs.Names.{log_names}
use Rattle.onll_task.specs.Job.{Job, Threads, JobCut, on_value, reading_whole}
use Rattle.onll_task.specs.Reading.{ReadsWhole}
use Rattle.onll_task.specs.Running.{RunPlan, RunLeft, RunCut, broken_threads}
use Rattle.onll_task.specs.Writing.{FilesStay}
use Rattle.onll_task.specs.Scripts.{ReadScripts, scripts_stage}
use Rattle.onll_runner.specs.ResumeJob.{based_task, reopened_task, resume_task}
use Rattle.onll_runner.specs.RunJob.{run_plan, run_task, calls_task, said_task}
use Rattle.onll_jobs.specs.Command.{OverInit, Resume, Run, form_of, OverForm, ResumeOver, RunOver, over_task, object_task}
use Rattle.onll_jobs.specs.ResumePromises.{ResumedCut}
use Rattle.onll_jobs.specs.RunPromises.{BeginsFrom, HasCut, OfFiles, RunIsCut, plan_from}
use Rattle.onll_jobs.specs.Says.{job_of}
use Rattle.onll_jobs.specs.Seen.{Seen}

-- ---- what was read
-- a text was read, and then the job was cut
record WholeCut {A : Type 0} (store after : StoreView) (name : List ℕ) (grammar : List ℕ → Result A Refusal) (next : List ℕ → A → Job) : Type 0 where
  bytes : List ℕ
  value : A
  read : ReadsWhole store grammar name bytes value
  cut : JobCut store after (next bytes value)

-- so were scripts
record ScriptsCut {State Op Query Reply : Type 0} (w : Wording State Op Query Reply) (store after : StoreView) (names : List (List ℕ)) (next : List (List (Call State Op Query Reply)) → Job) : Type 0 where
  scripts : List (List (Call State Op Query Reply))
  read : ReadScripts w store names scripts
  cut : JobCut store after (next scripts)

-- so were images
record ImagesCut (store after : StoreView) (names : List (List ℕ)) (next : List (List (List ℕ)) → Job) : Type 0 where
  images : List (List (List ℕ))
  known : AreKnown lines_stage names store images
  cut : JobCut store after (next images)

module _ (store after : StoreView) where
  whole_cut : {A : Type 0} (name : List ℕ) (grammar : List ℕ → Result A Refusal) (next : List ℕ → A → Job) → JobCut store after (reading_whole name grammar next) → FilesStay store after ⊎ WholeCut store after name grammar next
  whole_cut name grammar next (inl h) = inl h
  whole_cut {A = A} name grammar next (inr h) = by (grammar h.0) refl h.1.1
    where
      by : (r : Result A Refusal) → grammar h.0 ≡ r → JobCut store after (on_value name (next h.0) r) → FilesStay store after ⊎ WholeCut store after name grammar next
      by (Ok value) e k = inr (record { bytes = h.0; value = value; read = record { held = h.1.0; accepted = e }; cut = k })
      by (Err refusal) e k = inl k

  images_cut : (names : List (List ℕ)) (next : List (List (List ℕ)) → Job) → JobCut store after (each_job lines_stage names next) → FilesStay store after ⊎ ImagesCut store after names next
  images_cut [] next h = inr (record { images = []; known = tt; cut = h })
  images_cut (name ∷ names) next (inl h) = inl h
  images_cut (name ∷ names) next (inr h) = by (images_cut names (λ images. next (image_lines h.0 ∷ images)) h.1.1)
    where
      by : FilesStay store after ⊎ ImagesCut store after names (λ images. next (image_lines h.0 ∷ images)) → FilesStay store after ⊎ ImagesCut store after (name ∷ names) next
      by (inl stay) = inl stay
      by (inr rest) = inr (record { images = image_lines h.0 ∷ rest.images; known = (record { bytes = h.0; held = h.1.0; image = refl }, rest.known); cut = rest.cut })

  module _ {State Op Query Reply : Type 0} (w : Wording State Op Query Reply) where
    scripts_more : (name : List ℕ) (names : List (List ℕ)) (next : List (List (Call State Op Query Reply)) → Job)
        → ((script : List (Call State Op Query Reply)) → JobCut store after ((scripts_stage w names).job (λ scripts. next (script ∷ scripts))) → FilesStay store after ⊎ ScriptsCut w store after names (λ scripts. next (script ∷ scripts)))
        → FilesStay store after ⊎ WholeCut store after name (script_of w) (λ bytes calls. (scripts_stage w names).job (λ scripts. next (calls ∷ scripts))) → FilesStay store after ⊎ ScriptsCut w store after (name ∷ names) next
    scripts_more name names next go (inl stay) = inl stay
    scripts_more name names next go (inr first) = by (go first.value first.cut)
      where
        by : FilesStay store after ⊎ ScriptsCut w store after names (λ scripts. next (first.value ∷ scripts)) → FilesStay store after ⊎ ScriptsCut w store after (name ∷ names) next
        by (inl stay) = inl stay
        by (inr rest) = inr (record {
          scripts = first.value ∷ rest.scripts;
          read = (record { bytes = first.bytes; held = first.read.held; accepted = first.read.accepted }, rest.read);
          cut = rest.cut;
        })

    scripts_cut : (names : List (List ℕ)) (next : List (List (Call State Op Query Reply)) → Job) → JobCut store after ((scripts_stage w names).job next) → FilesStay store after ⊎ ScriptsCut w store after names next
    scripts_cut [] next h = inr (record { scripts = []; read = tt; cut = h })
    scripts_cut (name ∷ names) next h =
        scripts_more name names next (λ script. scripts_cut names (λ scripts. next (script ∷ scripts)))
        (whole_cut name (script_of w) (λ bytes calls. (scripts_stage w names).job (λ scripts. next (calls ∷ scripts))) h)

-- ---- what is left
said_cut : (k : ObjectKind) (plan : RunPlan k) (left : RunLeft k) (kept after : StoreView) (broken : ℕ) → JobCut kept after (said_task k plan left broken).job → FilesStay kept after
said_cut k plan left kept after zero h = h
said_cut k plan left kept after (suc more) h = h

module _ (from : Option Found) (kind : Kind) (init : List ℕ) (s : (kind_at kind).State) (store after : StoreView) (logs : List ℕ) (names : List (List ℕ))
    (scripts : List (List (Call (kind_at kind).State (kind_at kind).Op (kind_at kind).Query (kind_at kind).Reply))) (read : ReadScripts (kind_at kind).wording store names scripts)
    (begins : BeginsFrom from (kind_at kind) init store logs scripts) where
  abbrev plan_here : RunPlan (kind_at kind)
  plan_here = plan_from from (kind_at kind) init logs s scripts

  calls_left : JobCut store after (calls_task (kind_at kind) (Threads kind) plan_here).job → RunCut plan_here store after (λ left kept. FilesStay kept after)
  calls_left (inl short) = inl short
  calls_left (inr ran) = inr (record {
    left = ran.left;
    kept = ran.kept;
    run = ran.run;
    reads = ran.reads;
    keeps = ran.keeps;
    next = said_cut (kind_at kind) plan_here ran.left ran.kept after (broken_threads ran.left.ends) ran.next;
  })

  calls_cut : JobCut store after (calls_task (kind_at kind) (Threads kind) plan_here).job → HasCut from (kind_at kind) init s store after logs names
  calls_cut h = record { scripts = scripts; read = read; begins = begins; cut = calls_left h }

module _ (kind : Kind) (init : List ℕ) (s : (kind_at kind).State) (store after : StoreView) (logs : List ℕ) (names : List (List ℕ)) where
  run_cut : JobCut store after (run_task (kind_at kind) (Threads kind) init logs names s).job → FilesStay store after ⊎ HasCut None (kind_at kind) init s store after logs names
  run_cut h = by (scripts_cut store after k.wording names next h)
    where
      k : ObjectKind
      k = kind_at kind

      next : List (List (Call k.State k.Op k.Query k.Reply)) → Job
      next scripts = (calls_task k (Threads kind) (run_plan k init logs s scripts)).job

      by : FilesStay store after ⊎ ScriptsCut k.wording store after names next → FilesStay store after ⊎ HasCut None k init s store after logs names
      by (inl stay) = inl stay
      by (inr read) = inr (calls_cut None kind init s store after logs names read.scripts read.read tt read.cut)

  module _ (scripts : List (List (Call (kind_at kind).State (kind_at kind).Op (kind_at kind).Query (kind_at kind).Reply))) (read : ReadScripts (kind_at kind).wording store names scripts) where
    abbrev base : List (List (List ℕ)) → Result Found ResumeFault
    base images = base_in (kind_at kind).means (created_heads (kind_at kind).code init scripts) scripts images

    based_cut : (images : List (List (List ℕ))) → AreKnown lines_stage (log_names logs 0 (length scripts)) store images → (r : Result Found ResumeFault) → base images ≡ r
        → JobCut store after (based_task (kind_at kind) (Threads kind) init logs names s scripts r).job → FilesStay store after ⊎ ResumedCut (kind_at kind) init s store after logs names
    based_cut images known (Ok found) e h = inr (found, calls_cut (Some found) kind init s store after logs names scripts read (record { images = images; held = known; gives = e }) h)
    based_cut images known (Err fault) e h = inl h

    reopened_cut : JobCut store after (reopened_task (kind_at kind) (Threads kind) init logs names s scripts).job → FilesStay store after ⊎ ResumedCut (kind_at kind) init s store after logs names
    reopened_cut h = by (images_cut store after (log_names logs 0 (length scripts)) next h)
      where
        next : List (List (List ℕ)) → Job
        next images = (based_task (kind_at kind) (Threads kind) init logs names s scripts (base images)).job

        by : FilesStay store after ⊎ ImagesCut store after (log_names logs 0 (length scripts)) next → FilesStay store after ⊎ ResumedCut (kind_at kind) init s store after logs names
        by (inl stay) = inl stay
        by (inr taken) = based_cut taken.images taken.known (base taken.images) refl taken.cut

  resume_cut : JobCut store after (resume_task (kind_at kind) (Threads kind) init logs names s).job → FilesStay store after ⊎ ResumedCut (kind_at kind) init s store after logs names
  resume_cut h = by (scripts_cut store after k.wording names next h)
    where
      k : ObjectKind
      k = kind_at kind

      next : List (List (Call k.State k.Op k.Query k.Reply)) → Job
      next scripts = (reopened_task k (Threads kind) init logs names s scripts).job

      by : FilesStay store after ⊎ ScriptsCut k.wording store after names next → FilesStay store after ⊎ ResumedCut k init s store after logs names
      by (inl stay) = inl stay
      by (inr read) = reopened_cut read.scripts read.read read.cut

-- ---- the call
module _ (seen : Seen) (init logs : List ℕ) (names : List (List ℕ)) (over : OverForm) (form : form_of seen.words ≡ Some (OverInit init over)) (Left : OfFiles) where
  over_cut : ((kind : Kind) (bytes : List ℕ) (s : (kind_at kind).State) → JobCut seen.store seen.store_after (over_task over (kind_at kind) (Threads kind) bytes s).job
      → FilesStay seen.store seen.store_after ⊎ Left (kind_at kind) bytes s seen.store seen.store_after logs names)
      → JobCut seen.store seen.store_after (job_of (form_of seen.words)) → RunIsCut seen init logs names Left
  over_cut f h = by (whole_cut seen.store seen.store_after init init_of next (subst (λ x. JobCut seen.store seen.store_after (job_of x)) form h))
    where
      next : List ℕ → AnyObject → Job
      next bytes object = (object_task over bytes object).job

      left : (read : WholeCut seen.store seen.store_after init init_of next)
          → FilesStay seen.store seen.store_after ⊎ on_object (λ k s. Left k read.bytes s seen.store seen.store_after logs names) read.value → RunIsCut seen init logs names Left
      left read (inl stay) = inl stay
      left read (inr says) = inr (record { bytes = read.bytes; object = read.value; read = read.read; left = says })

      by : FilesStay seen.store seen.store_after ⊎ WholeCut seen.store seen.store_after init init_of next → RunIsCut seen init logs names Left
      by (inl stay) = inl stay
      by (inr read) = left read
          (kind_goes {A = Task} (λ kind s. over_task over (kind_at kind) (Threads kind) read.bytes s) (λ task. JobCut seen.store seen.store_after task.job)
          (λ k s. Left k read.bytes s seen.store seen.store_after logs names) (λ says. FilesStay seen.store seen.store_after ⊎ says)
          (λ kind s known e. f kind read.bytes s e) read.value read.cut)

pub run_is_cut : (seen : Seen) (init logs : List ℕ) (names : List (List ℕ)) → form_of seen.words ≡ Some (Run init logs names) → JobCut seen.store seen.store_after (job_of (form_of seen.words))
    → RunIsCut seen init logs names (HasCut None)
run_is_cut seen init logs names form =
    over_cut seen init logs names (RunOver logs names) form (HasCut None) (λ kind bytes s h. run_cut kind bytes s seen.store seen.store_after logs names h)

pub resume_is_cut : (seen : Seen) (init logs : List ℕ) (names : List (List ℕ)) → form_of seen.words ≡ Some (Resume init logs names) → JobCut seen.store seen.store_after (job_of (form_of seen.words))
    → RunIsCut seen init logs names ResumedCut
resume_is_cut seen init logs names form =
    over_cut seen init logs names (ResumeOver logs names) form ResumedCut (λ kind bytes s h. resume_cut kind bytes s seen.store seen.store_after logs names h)
