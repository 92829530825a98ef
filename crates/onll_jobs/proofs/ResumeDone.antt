-- A run that goes on from images in told files, whose texts are told and accepted, is run to its end, or a script has too many updates.

use Rattle.std.proofs.Common.{ℕ, List, ◌≡◌, inl, inr, length, Some, Result, Ok, Err, refl, sym, ap, ◌∙◌, subst}
use Rattle.onll_model.specs.declared.call.Call.{Call}
use Rattle.onll_log.specs.declared.head.LogHead.{LogHead}
use Rattle.onll_start.specs.declared.fault.ResumeFault.{ResumeFault}
use Rattle.onll_start.specs.declared.fault.ResumeFault.TheVariants as faults
use Rattle.onll_start.specs.Heads.{created_heads}
use Rattle.onll_start.specs.Start.{Found, found_in, base_in}
use Rattle.onll_core.specs.Core.{CoreState}
use Rattle.onll_log.specs.Head.{heads_from}
use Rattle.onll_core.specs.Resume.{resumed}
use Rattle.onll_core.proofs.Based.{same_refusal}
use Rattle.onll_text.specs.declared.any_object.Kind.{Kind}
use Rattle.onll_text.specs.Kinds.{kind_at}
use Rattle.onll_text.proofs.EachKind.{kind_goes}
use Rattle.onll_task.specs.declared.ending.Ending.{Ending}
use Rattle.onll_task.specs.declared.ending.Ending.TheVariants.{Refused}
use Rattle.onll_task.specs.declared.ending.Exit.{Exit}
use Rattle.onll_task.specs.declared.ending.Exit.TheVariants as exits
use Rattle.onll_task.specs.Doing.{Task, lines_stage, each_job}
use Rattle.onll_open.specs.Names.{log_names}
use Rattle.onll_task.specs.Images.{images_stage}
use Rattle.onll_task.specs.Job.{Job, Say, Threads}
use Rattle.onll_task.specs.Printed.{status_of, exit_status}
use Rattle.onll_outside.specs.Views.{Puts}
use Rattle.onll_task.specs.NotResumed.{resume_text}
use Rattle.onll_recovery.proofs.Resumes.{GoesOrMany, goes_or_many}
use Rattle.onll_runner.specs.ResumeJob.{based_task, reopened_task, resume_task}
use Rattle.onll_jobs.specs.AgainPromises.{TellScripts}
use Rattle.onll_eras.specs.Restored.{TellLogs}
use Rattle.onll_jobs.specs.Command.{ResumeOver, over_task}
use Rattle.onll_jobs.specs.ResumePromises.{SaysFrom, ResumesLeft, ResumesRun, Resumes}
use Rattle.onll_jobs.specs.Says.{ExitSays, NoneRose, SaysThis}
use Rattle.onll_jobs.specs.Seen.{Seen}
use Rattle.onll_jobs.proofs.CrashLeft.{left_many, left_images}
use Rattle.onll_jobs.proofs.RecoverRuns.{run_images}
use Rattle.onll_jobs.proofs.RunDone.{DidJob, did_rest, did_over, did_say}
use Rattle.onll_jobs.proofs.RunEnds.{calls_end}
use Rattle.onll_jobs.proofs.SaidEnds.{many_scripts}
use Rattle.onll_jobs.proofs.Told.{told_read, told_known, scripts_told, images_told}

-- a text that the job says is said
did_text : (seen : Seen) (ending : Ending) (text : List ℕ) (x : Exit) → DidJob seen x (Say ending text) → SaysThis seen (exit_status x) ending text
did_text seen ending text (exits.Said e) did = inl (ap status_of did.1.0, subst (Puts seen.sink seen.sink_after) did.1.1 did.2)
did_text seen ending text exits.SinkFault did = absurd did
did_text seen ending text exits.NoMemory did = inr refl

module _ (seen : Seen) (none : NoneRose seen) (x : Exit) (kind : Kind) (init : List ℕ) (s : (kind_at kind).State) (logs : List ℕ) (names : List (List ℕ))
    (scripts : List (List (Call (kind_at kind).State (kind_at kind).Op (kind_at kind).Query (kind_at kind).Reply))) (tell : TellScripts (kind_at kind).wording seen.store names scripts)
    (images : List (List (List ℕ))) (files : TellLogs seen.store logs 0 images) (many : length images ≡ length names) where
  abbrev heads : List LogHead
  heads = created_heads (kind_at kind).code init scripts

  abbrev goes_on : Result (CoreState (kind_at kind).State (kind_at kind).Op (kind_at kind).Query (kind_at kind).Reply) ResumeFault
  goes_on = resumed (kind_at kind).means (kind_at kind).code init s images scripts

  as_many : length images ≡ length scripts
  as_many = many ∙ sym (many_scripts (kind_at kind).wording seen.store names scripts (told_read (kind_at kind).wording seen.store names scripts tell))

  -- only a script with too many updates is refused
  refuses_many : GoesOrMany goes_on → (fault : ResumeFault) → base_in (kind_at kind).means heads scripts images ≡ Err fault → GoesOrMany {State = (kind_at kind).State} {Op = (kind_at kind).Op} {Query = (kind_at kind).Query} {Reply = (kind_at kind).Reply} (Err fault)
  refuses_many fine fault e = subst GoesOrMany (same_refusal (kind_at kind).means (kind_at kind).code init s images scripts fault e) fine

  -- by what the images give
  by_base : GoesOrMany goes_on → (r : Result Found ResumeFault) → base_in (kind_at kind).means heads scripts images ≡ r → DidJob seen x (based_task (kind_at kind) (Threads kind) init logs names s scripts r).job
      → SaysFrom (kind_at kind) init s seen (exit_status x) logs names r
  by_base fine (Ok found) e did =
      let k = kind_at kind in
      let held = subst (λ (n : ℕ). (images_stage logs n).known seen.store images) as_many (told_known seen.store logs 0 images files) in
      did_say seen none k init s logs names (Some found) (based_task k (Threads kind) init logs names s scripts (Ok found)).job
      (λ ending text h.
      calls_end (Some found) seen.store_after ending text kind init s seen.store logs names scripts (told_read k.wording seen.store names scripts tell) (record { images = images; held = held; gives = e }) h) x did
  by_base fine (Err (faults.TooMany thread)) e did = did_text seen Refused (resume_text names (faults.TooMany thread)) x did
  by_base fine (Err (faults.Images fault)) e did = absurd (refuses_many fine (faults.Images fault) e)
  by_base fine (Err (faults.OldFormat log)) e did = absurd (refuses_many fine (faults.OldFormat log) e)
  by_base fine (Err (faults.NotOp place)) e did = absurd (refuses_many fine (faults.NotOp place) e)
  by_base fine (Err faults.NoMemory) e did = absurd (refuses_many fine faults.NoMemory e)

  pub says_from : GoesOrMany goes_on → DidJob seen x (resume_task (kind_at kind) (Threads kind) init logs names s).job
      → SaysFrom (kind_at kind) init s seen (exit_status x) logs names (base_in (kind_at kind).means heads scripts images)
  says_from fine did =
      let k = kind_at kind in
      let task = reopened_task k (Threads kind) init logs names s in
      let based : List (List (List ℕ)) → Job = λ images. (based_task k (Threads kind) init logs names s scripts (base_in k.means heads scripts images)).job in
      let read = did_rest seen none (resume_task k (Threads kind) init logs names s).job (task scripts).job
      (λ ending text h. scripts_told seen.store_after ending text seen.store none.store k.wording names scripts (λ scripts. (task scripts).job) tell h) x did in
      let taken = did_rest seen none (each_job lines_stage (log_names logs 0 (length images)) based) (based images)
      (λ ending text h. images_told seen.store_after ending text seen.store none.store logs 0 images based files h) x
      (subst (λ (n : ℕ). DidJob seen x (each_job lines_stage (log_names logs 0 n) based)) (sym as_many) read) in
      by_base fine (base_in k.means heads scripts images) refl taken

  -- so it is where they give something to as many threads
  pub says_given : (found : Found) → found_in (kind_at kind).means (heads_from (length names) (kind_at kind).code init 0 (length names)) images ≡ Ok found
      → DidJob seen x (resume_task (kind_at kind) (Threads kind) init logs names s).job → SaysFrom (kind_at kind) init s seen (exit_status x) logs names (base_in (kind_at kind).means heads scripts images)
  says_given found gives did =
      let k = kind_at kind in
      let same = subst (λ (n : ℕ). found_in k.means (heads_from n k.code init 0 n) images ≡ Ok found) (sym many ∙ as_many) gives in
      says_from (goes_or_many k.means k.code init s scripts images found same) did

-- ---- what is promised
module _ (seen : Seen) (x : Exit) (says : ExitSays seen x) where
  pub resumes_left : Resumes seen (λ k bytes s logs names. ResumesLeft k bytes s seen (exit_status x) logs names)
  resumes_left init logs bytes names object form told accepted none =
      kind_goes {A = Task} (λ kind s. over_task (ResumeOver logs names) (kind_at kind) (Threads kind) bytes s) (λ task. DidJob seen x task.job)
      (λ k s. ResumesLeft k bytes s seen (exit_status x) logs names) (λ says. says)
      (λ kind s known did scripts tell left.
      let k = kind_at kind in
      let leaves = (left_images k bytes s seen.store logs (length names) left).leaves in
      record {
        leaves = leaves;
        says = says_given seen none x kind bytes s logs names scripts tell left.images left.files (left_many k bytes s seen.store logs (length names) left)
            (record { logs = leaves.all.recovers.logs; nodes = leaves.all.recovers.nodes }) leaves.gives did;
      }) object (did_over seen none init bytes logs names object (ResumeOver logs names) form told accepted x says)

  pub resumes_run : Resumes seen (λ k bytes s logs names. ResumesRun k bytes s seen (exit_status x) logs names)
  resumes_run init logs bytes names object form told accepted none =
      kind_goes {A = Task} (λ kind s. over_task (ResumeOver logs names) (kind_at kind) (Threads kind) bytes s) (λ task. DidJob seen x task.job)
      (λ k s. ResumesRun k bytes s seen (exit_status x) logs names) (λ says. says)
      (λ kind s known did scripts tell left.
      let held = run_images seen bytes logs (length names) (kind_at kind) s told.tells left in
      record {
        images = held.images;
        files = held.files;
        recovers = held.recovers;
        gives = held.gives;
        says = says_given seen none x kind bytes s logs names scripts tell held.images held.files held.many (record { logs = held.recovers.logs; nodes = held.recovers.nodes }) held.gives did;
      }) object (did_over seen none init bytes logs names object (ResumeOver logs names) form told accepted x says)
