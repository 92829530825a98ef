-- What is promised of a status is kept where its exit says so.

use Rattle.std.proofs.Common.{ℕ, ◌≡◌, ◌⊎◌, inl, inr, ⊎_elim, arith, refl, subst, sym}
use Rattle.onll_task.specs.declared.ending.Exit.{Exit}
use Rattle.onll_task.specs.declared.ending.Ending.TheVariants.{Done, Refused, BadLog, ReadFault, WriteFault, Faulty, Judged}
use Rattle.onll_jobs.specs.Command.{form_of}
use Rattle.onll_jobs.specs.AgainPromises.{AgainPromises}
use Rattle.onll_jobs.specs.Durable.{ReplayPromises}
use Rattle.onll_task.specs.Printed.{exit_status}
use Rattle.onll_jobs.specs.Promises.{Promises}
use Rattle.onll_jobs.specs.Says.{writes_of, ExitSays, ExitDetermined, PutWhole, SinkFailed}
use Rattle.onll_jobs.specs.ResumePromises.{ResumePromises}
use Rattle.onll_jobs.specs.RunPromises.{RunPromises}
use Rattle.onll_jobs.specs.MakePromises.{MakePromises}
use Rattle.onll_jobs.specs.Seen.{Seen}
use Rattle.onll_open.specs.Files.{SameBut}
use Rattle.onll_jobs.proofs.ExitCauses.{faulty_run, said_of, none_failed_of, usage_of, failed_of, no_memory_of, count_of, decided_exactly}
use Rattle.onll_jobs.proofs.FormsDetermined.{exit_done}
use Rattle.onll_jobs.proofs.AgainDurable.{again_durable, again_bad}
use Rattle.onll_jobs.proofs.AgainDone.{goes_on_left, goes_on_run}
use Rattle.onll_jobs.proofs.AuditRuns.{audit_kept}
use Rattle.onll_jobs.proofs.DetectCrashes.{tells_crashes}
use Rattle.onll_jobs.proofs.EraEnds.{restore_kept, checkpoint_kept}
use Rattle.onll_jobs.proofs.ShipEnds.{ship_kept, follow_kept}
use Rattle.onll_jobs.proofs.ReplayEnds.{replay_not_bad, replay_durable}
use Rattle.onll_jobs.proofs.ResumeDone.{resumes_left, resumes_run}
use Rattle.onll_jobs.proofs.ResumeEnds.{resume_whole, resume_broken, resume_no_device, resume_refused, resume_bad}
use Rattle.onll_jobs.proofs.RunEnds.{run_whole, run_broken, run_no_device, run_not_bad}
use Rattle.onll_jobs.proofs.RecoverCrashes.{recovers_crashes}
use Rattle.onll_jobs.proofs.RecoverRuns.{recovers_runs}
use Rattle.onll_jobs.proofs.RunCuts.{run_is_cut, resume_is_cut}
use Rattle.onll_jobs.proofs.RunDone.{run_done}
use Rattle.onll_jobs.proofs.MakeEnds.{make_put, make_sink, make_answers}

replay_kept : (seen : Seen) (x : Exit) → ExitSays seen x → ReplayPromises seen (exit_status x)
replay_kept seen x says = record {
  durable = λ init schedule logs names form e.
      replay_durable seen init schedule logs names form (said_of seen x Done (λ e. omega arith) e says);
  recovers = λ init schedule logs names form e.
      replay_not_bad seen init schedule logs names form (said_of seen x BadLog (λ e. omega arith) e says);
}

-- the sink failed, or a device of which this is said
device_kept : {A : Type 0} (seen : Seen) (x : Exit) → exit_status x ≡ 6 → ExitSays seen x → (PutWhole seen WriteFault → A) → SinkFailed seen ⊎ A
device_kept {A} seen x e says f = ⊎_elim (λ (sink : SinkFailed seen). inl sink) (λ (h : PutWhole seen WriteFault). inr (f h)) (failed_of seen x e says)

again_kept : (seen : Seen) (x : Exit) → ExitSays seen x → AgainPromises seen (exit_status x)
again_kept seen x says = record {
  durable = λ init schedule logs names form e. again_durable seen init schedule logs names form (said_of seen x Done (λ e. omega arith) e says);
  bad_logs = λ init schedule logs names form e. again_bad seen init schedule logs names form (said_of seen x BadLog (λ e. omega arith) e says);
  left = goes_on_left seen x says;
  run = goes_on_run seen x says;
}

resume_kept : (seen : Seen) (x : Exit) → ExitSays seen x → ResumePromises seen (exit_status x)
resume_kept seen x says = record {
  whole = λ init logs names form e. resume_whole seen init logs names form (said_of seen x Done (λ e. omega arith) e says);
  broken = λ init logs names form e. resume_broken seen init logs names form (said_of seen x Faulty (λ e. omega arith) e says);
  device = λ init logs names form e. device_kept seen x e says (resume_no_device seen init logs names form);
  refused = λ init logs names form e. resume_refused seen init logs names form (said_of seen x Refused (λ e. omega arith) e says);
  bad_logs = λ init logs names form e. resume_bad seen init logs names form (said_of seen x BadLog (λ e. omega arith) e says);
  memory = λ init logs names form e. resume_is_cut seen init logs names form (no_memory_of seen x e says).files;
  left = resumes_left seen x says;
  run = resumes_run seen x says;
}

run_kept : (seen : Seen) (x : Exit) → ExitSays seen x → RunPromises seen (exit_status x)
run_kept seen x says = record {
  whole = λ init logs names form e. run_whole seen init logs names form (said_of seen x Done (λ e. omega arith) e says);
  broken = λ init logs names form e. run_broken seen init logs names form (said_of seen x Faulty (λ e. omega arith) e says);
  device = λ init logs names form e. device_kept seen x e says (run_no_device seen init logs names form);
  only = λ e. faulty_run seen (said_of seen x Faulty (λ e. omega arith) e says);
  recovers = λ init logs names form e. run_not_bad seen init logs names form (said_of seen x BadLog (λ e. omega arith) e says);
  memory = λ init logs names form e. run_is_cut seen init logs names form (no_memory_of seen x e says).files;
  done = λ init logs names form tells none. run_done seen x init logs names form tells none says;
}

make_kept : (seen : Seen) (x : Exit) → ExitSays seen x → MakePromises seen (exit_status x)
make_kept seen x says = record {
  made = λ w form e. make_put seen w form (said_of seen x Done (λ e. omega arith) e says);
  sink = λ w form e. make_sink seen w form x e says;
  answers = λ w form. make_answers seen w form x says;
}

kept_of : (seen : Seen) (x : Exit) → ExitSays seen x → ExitDetermined seen x
    → SameBut (writes_of (form_of seen.words)) seen.store seen.store_after → Promises seen (exit_status x)
kept_of seen x says determined files = record {
  ended = record { exit = x; is = refl; says = says };
  done = λ e. said_of seen x Done (λ e. omega arith) e says;
  usage = λ e. usage_of seen x e says;
  refused = λ e. said_of seen x Refused (λ e. omega arith) e says;
  bad_log = λ e. said_of seen x BadLog (λ e. omega arith) e says;
  unread = λ e. said_of seen x ReadFault (λ e. omega arith) e says;
  failed = λ e. failed_of seen x e says;
  faulty = λ e. said_of seen x Faulty (λ e. omega arith) e says;
  judged = λ e. said_of seen x Judged (λ e. omega arith) e says;
  no_memory = λ e. no_memory_of seen x e says;
  nothing_failed = λ good. none_failed_of seen x (exit_status x) refl good says;
  sink_count = count_of seen x says;
  decided = λ ending text d none. decided_exactly seen x ending text d none says;
  determined = λ e. determined (exit_done x e);
  files = files;
  recover = record { crashes = recovers_crashes seen x says };
  replay = replay_kept seen x says;
  again = again_kept seen x says;
  resume = resume_kept seen x says;
  run = run_kept seen x says;
  recover_run = recovers_runs seen x says;
  make = make_kept seen x says;
  detect = record { crashes = tells_crashes seen x says };
  restore = restore_kept seen x says;
  checkpoint = checkpoint_kept seen x says;
  ship = ship_kept seen x says;
  follow = follow_kept seen x says;
  audit = audit_kept seen x says;
}

pub promises_kept : (seen : Seen) (x : Exit) (status : ℕ) → status ≡ exit_status x → ExitSays seen x → ExitDetermined seen x
    → SameBut (writes_of (form_of seen.words)) seen.store seen.store_after → Promises seen status
promises_kept seen x status e says determined files = subst (Promises seen) (sym e) (kept_of seen x says determined files)
