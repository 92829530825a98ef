-- What a call does by its words, and what it says of that by its exit.

use Rattle.std.specs.Prelude.{ℕ, List, [], ◌∷◌, ◌≡◌, ◌⊎◌, Option, Some, None}
use Rattle.onll_text.specs.declared.any_object.AnyObject.{AnyObject}
use Rattle.onll_text.specs.Init.{init_of}
use Rattle.onll_text.specs.Kinds.{ObjectKind, on_object}
use Rattle.onll_outside.specs.Views.{StoreView, SameFaults, Puts, PutsFront, Rose}
use Rattle.onll_task.specs.declared.ending.Ending.{Ending}
use Rattle.onll_task.specs.declared.ending.Ending.TheVariants.{Done, Usage}
use Rattle.onll_task.specs.declared.ending.Exit.{Exit}
use Rattle.onll_task.specs.declared.ending.Exit.TheVariants.{Said, SinkFault, NoMemory}
use Rattle.onll_jobs.specs.Seen.{Seen}
use Rattle.onll_jobs.specs.Command.{Form, OverInit, Show, Make, Areas, Restore, Checkpoint, Ship, form_of, usage_text, over_work}
use Rattle.onll_task.specs.Printed.{status_of, exit_status}
use Rattle.onll_task.specs.Reading.{ReadsWhole}
use Rattle.onll_task.specs.Job.{Job, JobEnds, JobCut}
use Rattle.onll_task.specs.Doing.{Work, say_task}
use Rattle.onll_eras.specs.EraJob.{areas_work, restore_work, checkpoint_work}
use Rattle.onll_jobs.specs.ShowJob.{show_work}
use Rattle.onll_jobs.specs.MakeJob.{make_work}
use Rattle.onll_shipping.specs.ShipJob.{ship_task}

-- what a call does by its words: those of no form get the usage text
abbrev pub work_of : Option Form → Work
work_of None = record { task = say_task Usage usage_text; writes = [] }
work_of (Some (OverInit init over)) = over_work init over
work_of (Some (Show image)) = show_work image
work_of (Some (Make workload)) = make_work workload
work_of (Some (Areas ckpt)) = areas_work ckpt
work_of (Some (Restore names threads)) = restore_work names threads
work_of (Some (Checkpoint names threads)) = checkpoint_work names threads
work_of (Some (Ship logs threads out)) = record { task = ship_task logs threads out; writes = out ∷ [] }

-- its job, with all its endings
abbrev pub job_of : Option Form → Job
job_of form = (work_of form).task.job

-- the files that it may write
abbrev pub writes_of : Option Form → List (List ℕ)
writes_of form = (work_of form).writes

-- the words and the files allow this ending with this text
abbrev pub AllowsEnding : Seen → Ending → List ℕ → Type 0
AllowsEnding seen ending text = JobEnds seen.store seen.store_after (job_of (form_of seen.words)) ending text

-- a text that is allowed was put whole
pub record PutWhole (seen : Seen) (ending : Ending) : Type 0 where
  pub text : List ℕ
  pub allowed : AllowsEnding seen ending text
  pub put : Puts seen.sink seen.sink_after text
  pub count : seen.sink_after.faults ≡ seen.sink.faults

-- some of the first of a text that is allowed were put
pub record PutSome (seen : Seen) : Type 0 where
  pub ending : Ending
  pub text : List ℕ
  pub allowed : AllowsEnding seen ending text
  pub put : PutsFront seen.sink seen.sink_after text

-- nothing was put
abbrev pub PutNothing : Seen → Type 0
PutNothing seen = seen.sink_after.taken ≡ seen.sink.taken

-- memory could not be had: nothing was put, or some of the first of a text that is allowed; and of the files that the words
-- write the first were written and the rest are as they were, but for one whose write failed
pub record OutOfMemory (seen : Seen) : Type 0 where
  pub taken : PutSome seen ⊎ PutNothing seen
  pub files : JobCut seen.store seen.store_after (job_of (form_of seen.words))
  pub count : seen.sink_after.faults ≡ seen.sink.faults

-- the sink failed after some of the first of a text
pub record SinkFailed (seen : Seen) : Type 0 where
  pub some : PutSome seen
  pub rose : Rose seen.sink.faults seen.sink_after.faults

-- neither the store's count of faults nor its last fault changed, nor the sink's count
pub record NothingFailed (seen : Seen) : Type 0 where
  pub store : SameFaults seen.store seen.store_after
  pub sink : seen.sink_after.faults ≡ seen.sink.faults

-- what a call says by its exit
abbrev pub ExitSays : Seen → Exit → Type 0
ExitSays seen (Said ending) = PutWhole seen ending
ExitSays seen SinkFault = SinkFailed seen
ExitSays seen NoMemory = OutOfMemory seen

-- the call ended so
pub record HasExited (seen : Seen) (status : ℕ) : Type 0 where
  pub exit : Exit
  pub is : status ≡ exit_status exit
  pub says : ExitSays seen exit

-- no count of faults rose, as each call that fails raises one of them by one
pub record NoneRose (seen : Seen) : Type 0 where
  pub store : Rose seen.store.faults seen.store_after.faults → ⊥
  pub sink : Rose seen.sink.faults seen.sink_after.faults → ⊥

-- this ending's status, and its text whole; or memory could not be had
abbrev pub SaysThis : Seen → ℕ → Ending → List ℕ → Type 0
SaysThis seen status ending text = ((status ≡ status_of ending) × Puts seen.sink seen.sink_after text) ⊎ (status ≡ 9)

-- over the initial state that a file holds such a text was put
pub record PutOverInit (seen : Seen) (init : List ℕ)
    (Says : (k : ObjectKind) → List ℕ → k.State → StoreView → StoreView → List ℕ → Type 0) : Type 0 where
  pub bytes : List ℕ
  pub object : AnyObject
  pub read : ReadsWhole seen.store init_of init bytes object
  pub text : List ℕ
  pub says : on_object (λ k s. Says k bytes s seen.store seen.store_after text) object
  pub put : Puts seen.sink seen.sink_after text

-- ---- what the text of a command that is done says of the files
-- a text that says so was put
pub record DeterminedPut (seen : Seen) : Type 0 where
  pub text : List ℕ
  pub says : (work_of (form_of seen.words)).task.reports seen.store text
  pub put : Puts seen.sink seen.sink_after text

-- words that are done, by their exit and by their status
abbrev pub ExitDetermined : Seen → Exit → Type 0
ExitDetermined seen exit = exit ≡ Said Done → DeterminedPut seen

abbrev pub IsDetermined : Seen → ℕ → Type 0
IsDetermined seen status = status ≡ 0 → DeterminedPut seen
