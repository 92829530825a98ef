-- What is asked of the files of eras, and the newest era, as the code is given them.

use Rattle.std.specs.Prelude.{ℕ, List, Result, length}
use Rattle.std.specs.declared.vec.Vec.{Vec}
use Rattle.onll_areas.specs.Newest.{newest}
use Rattle.onll_merge.specs.Recovered.{Recovered}
use Rattle.onll_outside.specs.Views.{StoreView}
use Rattle.onll_text.specs.declared.any_object.AnyObject.{AnyObject}
use Rattle.onll_text.specs.Kinds.{ObjectKind}
use Rattle.onll_task.specs.declared.answer.Stop.{Stop}
use Rattle.onll_task.specs.Doing.{Task, Work, Fulfils, after_stage}
use Rattle.onll_task.specs.Recovering.{recovery_stage}
use Rattle.onll_eras.specs.declared.era.Asked.{Asked}
use Rattle.onll_eras.specs.declared.era.Asked.TheVariants as asks
use Rattle.onll_eras.specs.declared.era.EraCall.{EraCall}
use Rattle.onll_eras.specs.declared.era.NewestEra.{NewestEra}
use Rattle.onll_eras.specs.EraJob.{EraNext, areas_stage, era_task, restored_with, restored_task, restore_work, checkpoint_with, checkpoint_task, checkpoint_work}
use Rattle.onll_eras.specs.EraReports.{newest_in, number_in, place_in}
use Rattle.onll_eras.specs.Eras.{Era}
use Rattle.onll_eras.specs.Names.{EraNames, names_of}

-- the era that code has read
abbrev pub era_found : NewestEra → Era
era_found era = record {
  number = number_in (newest_in era.newest.now);
  place = place_in (newest_in era.newest.now);
  text = era.text.now;
  source = era.source.now;
  logs = era.logs.now;
}

-- what goes on with what the logs of an era give
abbrev pub next_by : Asked → EraNames → ℕ → EraNext
next_by asks.Restore names threads = restored_task
next_by asks.Checkpoint names threads = checkpoint_task names.ckpt threads

-- the work that is asked
abbrev pub asked_work : Asked → EraNames → ℕ → Work
asked_work asks.Restore names threads = restore_work names threads
asked_work asks.Checkpoint names threads = checkpoint_work names threads

abbrev pub call_work : EraCall → Work
call_work call = asked_work call.asked (names_of call.files) call.threads

abbrev pub call_next : EraCall → EraNext
call_next call = next_by call.asked (names_of call.files) call.threads

-- what is asked of what logs gave, with the state after it
abbrev pub with_recovered : Asked → EraNames → ℕ → NewestEra → (k : ObjectKind) → k.State → Recovered → Task
with_recovered asks.Restore names threads era k state r = restored_with era.newest.now (era_found era) k state r
with_recovered asks.Checkpoint names threads era k state r =
    checkpoint_with names.ckpt threads (era_found era) k state (length r.nodes)

abbrev pub recovered_by : EraCall → NewestEra → (k : ObjectKind) → k.State → Recovered → Task
recovered_by call era k state r = with_recovered call.asked (names_of call.files) call.threads era k state r

-- the logs of the era are recovered over this state
abbrev pub found_task : EraCall → NewestEra → (k : ObjectKind) → k.State → Task
found_task call era k s =
    after_stage (recovery_stage k era.text.now era.logs.now call.threads) (call_next call era.newest.now (era_found era) k s)

-- what a function does over a state of a kind
pub record DoesFound {A : Type 0} (call : EraCall) (era : NewestEra) (k : ObjectKind) (s : k.State) (store after : StoreView)
    (result : Result (Vec ℕ A) Stop) : Type 0 where
  pub does : Fulfils (call_work call).writes store after (found_task call era k s) result

-- the areas are read, and then the logs of the newest era
abbrev pub areas_task : EraCall → List ℕ → AnyObject → Task
areas_task call bytes first = after_stage (areas_stage call.files.ckpt.now)
    (λ held. era_task (names_of call.files) bytes call.threads first (newest held.even held.odd) (call_next call))
