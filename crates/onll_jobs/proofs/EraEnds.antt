-- What `restore` and `checkpoint` promise is kept, by the exit of the call.

use Rattle.std.proofs.Common.{ℕ, ◌≡◌, ◌<◌, ◌≤◌, ◌+◌, inl, inr, ⊎_elim, true, List, Some, refl, sym, ap, subst, arith}
use Rattle.std.specs.Prelude.{◌^◌}
use Rattle.onll_outside.specs.Views.{Puts}
use Rattle.onll_task.specs.declared.ending.Ending.{Ending}
use Rattle.onll_task.specs.declared.ending.Ending.TheVariants.{Done, WriteFault, Faulty}
use Rattle.onll_task.specs.declared.ending.Exit.{Exit}
use Rattle.onll_task.specs.declared.ending.Exit.TheVariants.{Said, SinkFault, NoMemory}
use Rattle.onll_task.specs.Job.{JobEnds, JobCut, Decides}
use Rattle.onll_task.specs.Printed.{status_of, exit_status}
use Rattle.onll_task.proofs.Onwards.{ends_cut}
use Rattle.onll_eras.specs.Begun.{AreNamesApart}
use Rattle.onll_eras.specs.EraReports.{checkpoint_text}
use Rattle.onll_eras.specs.Eras.{next_area}
use Rattle.onll_eras.specs.Names.{EraNames}
use Rattle.onll_eras.specs.Restored.{Restores, era_in}
use Rattle.onll_eras.proofs.EraEndings.{fence_fault, file_fault}
use Rattle.onll_eras.proofs.NextEra.{checkpoint_cut, checkpoint_begins, checkpoint_is_done}
use Rattle.onll_eras.proofs.RestoreSays.{restore_says, restore_prints}
use Rattle.onll_jobs.specs.Command.{Restore, Checkpoint, form_of}
use Rattle.onll_jobs.specs.EraPromises.{HasRestored, RestoresThis, RestorePromises, HasCheckpoint, HasPutFence, HasPutFile, NoDeviceFailed, CheckpointPromises}
use Rattle.onll_jobs.specs.Says.{job_of, ExitSays, NoneRose, PutWhole, SaysThis, SinkFailed}
use Rattle.onll_jobs.specs.Seen.{Seen}
use Rattle.onll_jobs.proofs.ExitCauses.{said_of, failed_of, decided_exactly}
use Rattle.onll_jobs.proofs.Forms.{few-checkpointed}

-- however a call ends, its job stopped somewhere
stopped : (seen : Seen) (x : Exit) → ExitSays seen x → JobCut seen.store seen.store_after (job_of (form_of seen.words))
stopped seen (Said e) h = ends_cut seen.store seen.store_after (job_of (form_of seen.words)) e h.text h.allowed
stopped seen SinkFault h = ends_cut seen.store seen.store_after (job_of (form_of seen.words)) h.some.ending h.some.text h.some.allowed
stopped seen NoMemory h = h.files

-- ---- restore
module _ (seen : Seen) (names : EraNames) (threads : ℕ) (form : form_of seen.words ≡ Some (Restore names threads)) where
  restore_put : seen.store.tells ≡ true → PutWhole seen Done → HasRestored seen names threads
  restore_put tells h =
      let p = restore_prints seen.store seen.store_after names threads h.text tells
      (subst (λ form. JobEnds seen.store seen.store_after (job_of form) Done h.text) form h.allowed) in
      record { place = p.place; text = p.text; restores = p.restores; said = h.text; place_said = p.place_said; put = h.put }

  restore_found : (x : Exit) (place : ℕ) (text : List ℕ) → Restores seen.store names threads place text → NoneRose seen → ExitSays seen x
      → RestoresThis seen (exit_status x) place text
  restore_found x place text r none says =
      let d = restore_says seen.store names threads place text r in
      record {
        said = d.said;
        place_said = d.place_said;
        says = decided_exactly seen x Done d.said (subst (λ form. Decides seen.store (job_of form) Done d.said) (sym form) d.decides) none says;
      }

pub restore_kept : (seen : Seen) (x : Exit) → ExitSays seen x → RestorePromises seen (exit_status x)
restore_kept seen x says = record {
  printed = λ names threads form tells e. restore_put seen names threads form tells (said_of seen x Done (λ e. omega arith) e says);
  found = λ names threads place text form r none. restore_found seen names threads form x place text r none says;
}

-- ---- checkpoint
module _ (seen : Seen) (names : EraNames) (threads : ℕ) (form : form_of seen.words ≡ Some (Checkpoint names threads)) where
  few : (1 ≤ threads) × (threads ≤ 16)
  few = few-checkpointed seen.words names threads form

  ends_at : (ending : Ending) (h : PutWhole seen ending)
      → JobEnds seen.store seen.store_after (job_of (Some (Checkpoint names threads))) ending h.text
  ends_at ending h = subst (λ form. JobEnds seen.store seen.store_after (job_of form) ending h.text) form h.allowed

  era_kept : (x : Exit) (place : ℕ) (text : List ℕ) → ExitSays seen x → seen.store.tells ≡ true
      → (r : Restores seen.store names threads place text) → AreNamesApart names (next_area (era_in r)) threads
      → Restores seen.store_after names threads place text
  era_kept x place text says tells r apart =
      checkpoint_cut seen.store seen.store_after names threads place text tells few.0 few.1 r apart
      (subst (λ form. JobCut seen.store seen.store_after (job_of form)) form (stopped seen x says))

  checkpoint_put : seen.store.tells ≡ true → PutWhole seen Done → HasCheckpoint seen names threads
  checkpoint_put tells h =
      let p = checkpoint_begins seen.store seen.store_after names threads h.text tells few.0 few.1 (ends_at Done h) in
      record { place = p.place; text = p.text; was = p.was; put = subst (Puts seen.sink seen.sink_after) p.says h.put; begins = p.begins }

  fence_put : PutWhole seen Faulty → HasPutFence seen threads
  fence_put h = record { said = h.text; fault = fence_fault seen.store seen.store_after names threads h.text (ends_at Faulty h); put = h.put }

  file_put : PutWhole seen WriteFault → HasPutFile seen
  file_put h = record { said = h.text; fault = file_fault seen.store seen.store_after names threads h.text (ends_at WriteFault h); put = h.put }

  checkpoint_comes : (x : Exit) (place : ℕ) (text : List ℕ) → (r : Restores seen.store names threads place text)
      → (era_in r).number + 1 < 2 ^ 64 → NoDeviceFailed seen → ExitSays seen x
      → SaysThis seen (exit_status x) Done (checkpoint_text ((era_in r).number + 1) place text)
  checkpoint_comes (Said e) place text r left none h =
      let d = checkpoint_is_done seen.store seen.store_after names threads place text e h.text r left none.none.store none.devices (ends_at e h) in
      inl (ap status_of d.0, subst (Puts seen.sink seen.sink_after) d.1 h.put)
  checkpoint_comes SinkFault place text r left none h = absurd (none.none.sink h.rose)
  checkpoint_comes NoMemory place text r left none h = inr refl

pub checkpoint_kept : (seen : Seen) (x : Exit) → ExitSays seen x → CheckpointPromises seen (exit_status x)
checkpoint_kept seen x says = record {
  kept = λ names threads place text form tells r apart. era_kept seen names threads form x place text says tells r apart;
  done = λ names threads form tells e. checkpoint_put seen names threads form tells (said_of seen x Done (λ e. omega arith) e says);
  fence = λ names threads form e. fence_put seen names threads form (said_of seen x Faulty (λ e. omega arith) e says);
  file = λ names threads form e.
      ⊎_elim (λ (sink : SinkFailed seen). inl sink) (λ (h : PutWhole seen WriteFault). inr (file_put seen names threads form h)) (failed_of seen x e says);
  comes = λ names threads place text form r left none. checkpoint_comes seen names threads form x place text r left none says;
}
