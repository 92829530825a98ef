-- What the program promises of a call, by what the call was handed, what it left, and its status.

use Rattle.std.specs.Prelude.{ℕ, List, ◌≡◌, ◌⊎◌, None}
use Rattle.onll_outside.specs.Views.{Puts}
use Rattle.onll_task.specs.declared.ending.Ending.{Ending}
use Rattle.onll_task.specs.declared.ending.Ending.TheVariants.{Done, Refused, BadLog, ReadFault, WriteFault, Faulty, Judged}
use Rattle.onll_jobs.specs.AgainPromises.{AgainPromises}
use Rattle.onll_jobs.specs.AuditPromises.{AuditPromises}
use Rattle.onll_jobs.specs.Command.{form_of, usage_text}
use Rattle.onll_jobs.specs.DetectPromises.{DetectPromises}
use Rattle.onll_jobs.specs.EraPromises.{RestorePromises, CheckpointPromises}
use Rattle.onll_jobs.specs.Durable.{RecoverPromises, ReplayPromises}
use Rattle.onll_task.specs.Job.{Decides}
use Rattle.onll_jobs.specs.Says.{job_of, writes_of, HasExited, IsDetermined, NoneRose, NothingFailed, OutOfMemory, PutWhole, SaysThis, SinkFailed}
use Rattle.onll_jobs.specs.ResumePromises.{ResumePromises}
use Rattle.onll_jobs.specs.RunPromises.{RunPromises}
use Rattle.onll_jobs.specs.RunRecovers.{RecoversRuns}
use Rattle.onll_jobs.specs.MakePromises.{MakePromises}
use Rattle.onll_jobs.specs.ShipPromises.{ShipPromises, FollowPromises}
use Rattle.onll_jobs.specs.Seen.{Seen}
use Rattle.onll_open.specs.Files.{SameBut}

pub record Promises (seen : Seen) (status : ℕ) : Type 0 where
  -- The status is that of an exit, which says this of the words, the files and what was put.
  pub ended : HasExited seen status
  -- What each status says.
  pub done : status ≡ 0 → PutWhole seen Done
  pub usage : status ≡ 2 → (form_of seen.words ≡ None) × Puts seen.sink seen.sink_after usage_text
  pub refused : status ≡ 3 → PutWhole seen Refused
  pub bad_log : status ≡ 4 → PutWhole seen BadLog
  pub unread : status ≡ 5 → PutWhole seen ReadFault
  pub failed : status ≡ 6 → SinkFailed seen ⊎ PutWhole seen WriteFault
  pub faulty : status ≡ 7 → PutWhole seen Faulty
  pub judged : status ≡ 8 → PutWhole seen Judged
  pub no_memory : status ≡ 9 → OutOfMemory seen
  -- A good ending says that nothing failed, also where no file is told; so does that of a run in which a fence failed, and that of a
  -- report that is wrong.
  pub nothing_failed : (status ≡ 0) ⊎ (status ≡ 2) ⊎ (status ≡ 3) ⊎ (status ≡ 4) ⊎ (status ≡ 7) ⊎ (status ≡ 8) → NothingFailed seen
  -- Where the sink fails, the status says so, whatever else was found.
  pub sink_count : (status ≡ 6) ⊎ (seen.sink_after.faults ≡ seen.sink.faults)
  -- When it comes: where no count of faults rose, the words and the bytes of the files decide, but for memory.
  pub decided : (ending : Ending) (text : List ℕ) → Decides seen.store (job_of (form_of seen.words)) ending text
      → NoneRose seen → SaysThis seen status ending text
  -- What a command that is done prints says the data that its files give, all of which read back, and nothing else that reads
  -- back is printed by its bytes.
  pub determined : IsDetermined seen status
  -- No file changes but those that the words write.
  pub files : SameBut (writes_of (form_of seen.words)) seen.store seen.store_after
  -- What single commands promise beside.
  pub recover : RecoverPromises seen status
  pub replay : ReplayPromises seen status
  pub again : AgainPromises seen status
  pub resume : ResumePromises seen status
  pub run : RunPromises seen status
  -- and `recover` of what `run` and `resume` keep
  pub recover_run : RecoversRuns seen status
  pub make : MakePromises seen status
  pub detect : DetectPromises seen status
  pub restore : RestorePromises seen status
  pub checkpoint : CheckpointPromises seen status
  pub ship : ShipPromises seen status
  pub follow : FollowPromises seen status
  pub audit : AuditPromises seen status
