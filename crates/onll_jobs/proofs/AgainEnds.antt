-- How a run that goes on from images ends where each file is read and no text is refused.

use Rattle.std.proofs.Common.{ℕ, List, [], ◌∷◌, ◌≡◌, ◌⊎◌, inl, inr, length, map, take, ◌/◌, Option, Some, Result, Ok, Err, sym, subst}
use Rattle.std.specs.List.{AllByRecursion}
use Rattle.std.specs.Simd.{first_chunks}
use Rattle.onll_model.specs.declared.call.Call.{Call}
use Rattle.onll_model.specs.Object.{Behaviour}
use Rattle.onll_words.specs.Bytes.{low_word}
use Rattle.onll_words.specs.Lines.{words_of_bytes}
use Rattle.onll_words.proofs.WordBytes.{length-words_in}
use Rattle.onll_log.specs.ImageFile.{longest_image, image_lines}
use Rattle.onll_log.specs.Torn.{AreLines}
use Rattle.onll_start.specs.declared.fault.ResumeFault.{ResumeFault}
use Rattle.onll_start.specs.declared.fault.ResumeFault.TheVariants.{Images, OldFormat, NotOp, TooMany, NoMemory}
use Rattle.onll_core.specs.Core.{CoreState}
use Rattle.onll_core.specs.Turns.{turns_of}
use Rattle.onll_core.specs.Step.{steps_of}
use Rattle.onll_core.specs.Crash.{heads_of, images_of}
use Rattle.onll_core.specs.Resume.{resumed}
use Rattle.onll_text.specs.declared.any_object.AnyObject.{AnyObject}
use Rattle.onll_text.specs.declared.schedule.Schedule.{Schedule}
use Rattle.onll_text.specs.Init.{init_of}
use Rattle.onll_text.specs.Kinds.{ObjectKind, kind_at, on_object}
use Rattle.onll_text.specs.Schedule.{schedule_of}
use Rattle.onll_text.specs.Wording.{Wording}
use Rattle.onll_text.proofs.EachKind.{IsKnown, kind_goes}
use Rattle.onll_outside.specs.Views.{StoreView}
use Rattle.onll_task.specs.declared.ending.Ending.{Ending}
use Rattle.onll_task.specs.declared.ending.Ending.TheVariants.{Done, Usage, BadLog, Faulty, Judged}
use Rattle.onll_task.specs.Reading.{ReadsWhole}
use Rattle.onll_task.specs.Doing.{Task, lines_stage, AreKnown}
use Rattle.onll_open.specs.Names.{log_names}
use Rattle.onll_task.specs.Job.{Threads, JobEnds}
use Rattle.onll_merge.specs.declared.fault.StateFault.{StateFault}
use Rattle.onll_merge.specs.Recovered.{Recovered, state_recovered}
use Rattle.onll_recovery.specs.ReplayJob.{run_task}
use Rattle.onll_recovery.specs.AgainJob.{resumed_task, goes_on_task, planned_task, again_task}
use Rattle.onll_task.specs.NotResumed.{resume_ending}
use Rattle.onll_jobs.specs.AgainPromises.{HasReadFiles}
use Rattle.onll_jobs.specs.Command.{form_of, Again, AgainOver, over_task, object_task, over_work}
use Rattle.onll_jobs.specs.Durable.{with_images}
use Rattle.onll_jobs.specs.Says.{job_of, PutWhole}
use Rattle.onll_jobs.specs.Seen.{Seen}
use Rattle.onll_jobs.proofs.ReplayEnds.{images_end}
use Rattle.onll_jobs.proofs.SaidEnds.{IsSaid, said_read, images_read, known_many, whole_ends, scripts_end}

-- all files were read, and the job went on
pub record AgainRead (k : ObjectKind) (init : List ℕ) (s : k.State) (store after : StoreView) (schedule logs : List ℕ) (names : List (List ℕ)) (ending : Ending) (text : List ℕ) : Type 0 where
  pub scripts : List (List (Call k.State k.Op k.Query k.Reply))
  pub plan : Schedule
  pub images : List (List (List ℕ))
  pub files_read : HasReadFiles k init s store schedule logs names scripts plan images
  pub many : length images ≡ length scripts
  pub eight : AllByRecursion AreLines images
  pub ends : JobEnds store after (resumed_task k.means k.wording logs names scripts plan (resumed k.means k.code init s images scripts)).job ending text

-- the initial state was read, and this holds over it
pub record OverEnds (Q : (k : ObjectKind) → List ℕ → k.State → Type 0) (R : Type 0 → Type 0) (store : StoreView) (init : List ℕ) : Type 0 where
  pub bytes : List ℕ
  pub object : AnyObject
  pub read : ReadsWhole store init_of init bytes object
  pub ends : R (on_object (λ k s. Q k bytes s) object)

-- the lines of an image are of eight words
eight_words : (chunks : List (List ℕ)) → AreLines (map words_of_bytes chunks)
eight_words [] = tt
eight_words (chunk ∷ chunks) = (length-words_in low_word 8 chunk, eight_words chunks)

pub image_eight : (bytes : List ℕ) → AreLines (image_lines bytes)
image_eight bytes = eight_words (first_chunks 64 (length (take longest_image bytes) / 64) (take longest_image bytes))

known_eight : (store : StoreView) (names : List (List ℕ)) (images : List (List (List ℕ))) → AreKnown lines_stage names store images → AllByRecursion AreLines images
known_eight store [] [] h = tt
known_eight store [] (image ∷ images) h = absurd h
known_eight store (name ∷ names) [] h = absurd h
known_eight store (name ∷ names) (image ∷ images) h = (subst AreLines (sym h.0.image) (image_eight h.0.bytes), known_eight store names images h.1)

module _ (after : StoreView) (ending : Ending) (text : List ℕ) (said : IsSaid ending) where
  on_read : (k : ObjectKind) (store : StoreView) (init : List ℕ) (s : k.State) (schedule logs : List ℕ) (names : List (List ℕ))
      → JobEnds store after (again_task k init schedule logs names s).job ending text → AgainRead k init s store after schedule logs names ending text
  on_read k store init s schedule logs names h =
      let read = scripts_end after ending text (said_read ending said) k.wording store names (λ scripts. (planned_task k init s schedule logs names scripts).job) h in
      let scripts = read.scripts in
      let count = length scripts in
      let planned = whole_ends after ending text (said_read ending said) store schedule (schedule_of count) (λ bytes (plan : Schedule). (goes_on_task k init s logs names scripts plan).job) read.ends in
      let plan = planned.value in
      let taken = images_read after ending text (said_read ending said).0 store (log_names logs 0 count) (λ images. (resumed_task k.means k.wording logs names scripts plan (resumed k.means k.code init s images scripts)).job) planned.ends in
      record {
        scripts = scripts;
        plan = plan;
        images = taken.images;
        files_read = record { read = read.read; planned = record { bytes = planned.bytes; held = planned.read.held; accepted = planned.read.accepted }; held = taken.known };
        many = known_many store logs 0 count taken.images taken.known;
        eight = known_eight store (log_names logs 0 count) taken.images taken.known;
        ends = taken.ends;
      }

  -- what an end says, over the initial state that was read
  pub job_ends : (Q : (k : ObjectKind) → List ℕ → k.State → Type 0) (R : Type 0 → Type 0) (store : StoreView) (init schedule logs : List ℕ) (names : List (List ℕ))
      → ((k : ObjectKind) (bytes : List ℕ) (s : k.State) → IsKnown k → AgainRead k bytes s store after schedule logs names ending text → R (Q k bytes s))
      → JobEnds store after (over_work init (AgainOver schedule logs names)).task.job ending text → OverEnds Q R store init
  job_ends Q R store init schedule logs names step h =
      let read = whole_ends after ending text (said_read ending said) store init init_of (λ bytes object. (object_task (AgainOver schedule logs names) bytes object).job) h in
      record {
        bytes = read.bytes;
        object = read.value;
        read = read.read;
        ends = kind_goes {A = Task} (λ kind s. over_task (AgainOver schedule logs names) (kind_at kind) (Threads kind) read.bytes s) (λ task. JobEnds store after task.job ending text)
            (λ k s. Q k read.bytes s) R
            (λ kind s known h. step (kind_at kind) read.bytes s known (on_read (kind_at kind) store read.bytes s schedule logs names h)) read.value read.ends;
      }

-- ---- endings that never come
-- what is said where none goes on
other_ending : (fault : ResumeFault) (ending : Ending) → IsSaid ending → ending ≡ resume_ending fault → ending ≡ BadLog
other_ending (TooMany thread) ending said e = absurd (subst IsSaid e said)
other_ending (Images fault) ending said e = e
other_ending (OldFormat log) ending said e = e
other_ending (NotOp place) ending said e = e
other_ending NoMemory ending said e = e

module _ (after : StoreView) (ending : Ending) (text : List ℕ) (said : IsSaid ending) where
  run_said : {State Op Query Reply : Type 0} (b : Behaviour State Op Query Reply) (w : Wording State Op Query Reply) (store : StoreView) (on : Option ℕ) (scripts : List (List (Call State Op Query Reply))) (c : CoreState State Op Query Reply) (keep : ℕ) (recovered : Result Recovered StateFault)
      → JobEnds store after (run_task b w on scripts c keep recovered).job ending text → (ending ≡ Done) ⊎ (ending ≡ BadLog)
  run_said b w store on scripts c keep (Ok r) h = inl h.0
  run_said b w store on scripts c keep (Err fault) h = inr h.0

  task_said : {State Op Query Reply : Type 0} (b : Behaviour State Op Query Reply) (w : Wording State Op Query Reply) (store : StoreView) (logs : List ℕ) (names : List (List ℕ)) (scripts : List (List (Call State Op Query Reply))) (plan : Schedule) (found : Result (CoreState State Op Query Reply) ResumeFault)
      → JobEnds store after (resumed_task b w logs names scripts plan found).job ending text → (ending ≡ Done) ⊎ (ending ≡ BadLog)
  task_said b w store logs names scripts plan (Ok c) h =
      let core = steps_of b c (turns_of plan.turns) in
      let images = images_of plan.keep core.threads in
      let recovered = state_recovered b (heads_of core.threads) images in
      run_said b w (with_images store logs 0 images) (Some c.base) scripts core plan.keep recovered (images_end after ending text said store logs 0 images (run_task b w (Some c.base) scripts core plan.keep recovered).job h)
  task_said b w store logs names scripts plan (Err fault) h = inr (other_ending fault ending said h.0)

done_or_bad : (ending : Ending) → (ending ≡ Done → ⊥) → (ending ≡ BadLog → ⊥) → (ending ≡ Done) ⊎ (ending ≡ BadLog) → ⊥
done_or_bad ending f g (inl e) = f e
done_or_bad ending f g (inr e) = g e

-- ---- the call
module _ (seen : Seen) (init schedule logs : List ℕ) (names : List (List ℕ)) (form : form_of seen.words ≡ Some (Again init schedule logs names)) where
  pub again_put : (Q : (k : ObjectKind) → List ℕ → k.State → Type 0) (R : Type 0 → Type 0) (ending : Ending) → IsSaid ending → (h : PutWhole seen ending)
      → ((k : ObjectKind) (bytes : List ℕ) (s : k.State) → IsKnown k → AgainRead k bytes s seen.store seen.store_after schedule logs names ending h.text → R (Q k bytes s)) → OverEnds Q R seen.store init
  again_put Q R ending said h step =
      job_ends seen.store_after ending h.text said Q R seen.store init schedule logs names step
      (subst (λ form. JobEnds seen.store seen.store_after (job_of form) ending h.text) form h.allowed)

  never_put : (ending : Ending) → IsSaid ending → (ending ≡ Done → ⊥) → (ending ≡ BadLog → ⊥) → PutWhole seen ending → ⊥
  never_put ending said f g h =
      (again_put (λ k bytes s. Unit {0}) (λ says. ⊥) ending said h
      (λ k bytes s known read. done_or_bad ending f g (task_said seen.store_after ending h.text said k.means k.wording seen.store logs names read.scripts read.plan (resumed k.means k.code bytes s read.images read.scripts) read.ends))).ends

  -- the usage is never said, nor that a fence failed, nor that a report is wrong
  pub again_not_usage : PutWhole seen Usage → ⊥
  again_not_usage h = never_put Usage tt (λ e. cc e) (λ e. cc e) h

  pub again_not_faulty : PutWhole seen Faulty → ⊥
  again_not_faulty h = never_put Faulty tt (λ e. cc e) (λ e. cc e) h

  pub again_not_judged : PutWhole seen Judged → ⊥
  again_not_judged h = never_put Judged tt (λ e. cc e) (λ e. cc e) h
