-- What a job that reads told files does, where no call of the store failed: it goes on with what they hold.

use Rattle.std.proofs.Common.{ℕ, suc, List, [], ◌∷◌, ◌≡◌, inl, inr, length, Result, Ok, sym, subst}
use Rattle.std.specs.List.{AllByRecursion}
use Rattle.onll_model.specs.declared.call.Call.{Call}
use Rattle.onll_log.specs.ImageFile.{image_lines}
use Rattle.onll_text.specs.Refusal.{Refusal}
use Rattle.onll_text.specs.Wording.{Wording}
use Rattle.onll_text.specs.Script.{script_of}
use Rattle.onll_outside.specs.Views.{StoreView, Rose}
use Rattle.onll_task.specs.declared.ending.Ending.{Ending}
use Rattle.onll_task.specs.Doing.{lines_stage, each_job, AreKnown}
use Rattle.onll_open.specs.Names.{log_name, log_names}
use Rattle.onll_task.specs.Job.{Job, JobEnds, on_value, reading_whole}
use Rattle.onll_task.specs.Reading.{FileIsTold}
use Rattle.onll_task.proofs.Jobs.{held_bytes, cannot}
use Rattle.onll_task.specs.Scripts.{ReadScripts, scripts_stage}
use Rattle.onll_jobs.specs.AgainPromises.{TellScripts}
use Rattle.onll_eras.specs.Restored.{TellLogs}
use Rattle.onll_jobs.specs.RunPromises.{TellsText}

-- ---- what is told is held
module _ {State Op Query Reply : Type 0} (w : Wording State Op Query Reply) (store : StoreView) where
  pub told_read : (names : List (List ℕ)) (scripts : List (List (Call State Op Query Reply))) → TellScripts w store names scripts → ReadScripts w store names scripts
  told_read [] [] h = tt
  told_read [] (script ∷ scripts) h = absurd h
  told_read (name ∷ names) [] h = absurd h
  told_read (name ∷ names) (script ∷ scripts) h = (record { bytes = h.0.bytes; held = λ tells. h.0.told.file; accepted = h.0.accepted }, told_read names scripts h.1)

  -- texts that are accepted are some scripts
  pub tell_scripts : (names : List (List ℕ)) → AllByRecursion (TellsText store (script_of w)) names → (scripts : List (List (Call State Op Query Reply))) × TellScripts w store names scripts
  tell_scripts [] h = ([], tt)
  tell_scripts (name ∷ names) h =
      let rest = tell_scripts names h.1 in
      (h.0.value ∷ rest.0, (record { bytes = h.0.bytes; told = h.0.told; accepted = h.0.accepted }, rest.1))

pub told_known : (store : StoreView) (logs : List ℕ) (i : ℕ) (images : List (List (List ℕ))) → TellLogs store logs i images → AreKnown lines_stage (log_names logs i (length images)) store images
told_known store logs i [] h = tt
told_known store logs i (image ∷ images) h = (record { bytes = h.0.bytes; held = λ tells. h.0.told.file; image = h.0.image }, told_known store logs (suc i) images h.1)

-- ---- what is read is what is told
module _ (after : StoreView) (ending : Ending) (text : List ℕ) (store : StoreView) (none : Rose store.faults after.faults → ⊥) where
  pub told_ends : {A : Type 0} (name : List ℕ) (grammar : List ℕ → Result A Refusal) (next : List ℕ → A → Job) (bytes : List ℕ) (value : A) → FileIsTold store name bytes → grammar bytes ≡ Ok value
      → JobEnds store after (reading_whole name grammar next) ending text → JobEnds store after (next bytes value) ending text
  told_ends name grammar next bytes value told accepted (inl h) = absurd (none (cannot store after name ending text h.0))
  told_ends {A} name grammar next bytes value told accepted (inr h) =
      let same = held_bytes store name bytes h.0 told h.1.0 in
      let here = subst (λ (b : List ℕ). JobEnds store after (on_value name (next b) (grammar b)) ending text) same h.1.1 in
      subst (λ (r : Result A Refusal). JobEnds store after (on_value name (next bytes) r) ending text) accepted here

  pub scripts_told : {State Op Query Reply : Type 0} (w : Wording State Op Query Reply) (names : List (List ℕ)) (scripts : List (List (Call State Op Query Reply))) (next : List (List (Call State Op Query Reply)) → Job)
      → TellScripts w store names scripts → JobEnds store after ((scripts_stage w names).job next) ending text → JobEnds store after (next scripts) ending text
  scripts_told w [] [] next tell h = h
  scripts_told w [] (script ∷ scripts) next tell h = absurd tell
  scripts_told w (name ∷ names) [] next tell h = absurd tell
  scripts_told w (name ∷ names) (script ∷ scripts) next tell h =
      scripts_told w names scripts (λ more. next (script ∷ more)) tell.1
      (told_ends name (script_of w) (λ bytes calls. (scripts_stage w names).job (λ more. next (calls ∷ more))) tell.0.bytes script tell.0.told tell.0.accepted h)

  pub images_told : (logs : List ℕ) (i : ℕ) (images : List (List (List ℕ))) (next : List (List (List ℕ)) → Job)
      → TellLogs store logs i images → JobEnds store after (each_job lines_stage (log_names logs i (length images)) next) ending text → JobEnds store after (next images) ending text
  images_told logs i [] next tell h = h
  images_told logs i (image ∷ images) next tell (inl h) = absurd (none (cannot store after (log_name logs i) ending text h.0))
  images_told logs i (image ∷ images) next tell (inr h) =
      let same = held_bytes store (log_name logs i) tell.0.bytes h.0 tell.0.told h.1.0 in
      let here = subst (λ (b : List ℕ). JobEnds store after (each_job lines_stage (log_names logs (suc i) (length images)) (λ more. next (image_lines b ∷ more))) ending text) same h.1.1 in
      let there = subst (λ (lines : List (List ℕ)). JobEnds store after (each_job lines_stage (log_names logs (suc i) (length images)) (λ more. next (lines ∷ more))) ending text) (sym tell.0.image) here in
      images_told logs (suc i) images (λ more. next (image ∷ more)) tell.1 there
