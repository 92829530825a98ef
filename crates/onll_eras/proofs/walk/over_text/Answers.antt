use Rattle.std.proofs.Common.{refl}
use Rattle.onll_text.specs.Init.{init_of}
use Rattle.onll_task.proofs.Stages.{none_does}
use Rattle.onll_eras.specs.EraCall.{call_work, era_found, found_task}
use Rattle.onll_eras.specs.EraJob.{on_started}
use Rattle.onll_eras.proofs.walk.over_text.Goals as goal

pub returns-in-Err-NoMemory : goal.returns-in-Err-NoMemory
returns-in-Err-NoMemory g c =
    none_does (call_work c.args.call).writes (g.S.Store.seen c.args.store.now) (on_started (era_found c.args.era) (init_of c.args.era.text.now) (found_task c.args.call c.args.era)) refl
