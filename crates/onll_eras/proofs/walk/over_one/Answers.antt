use Rattle.onll_merge.specs.Recovered.{recovered_in}
use Rattle.onll_text.specs.Kinds.{kind_by}
use Rattle.onll_task.proofs.Stages.{read_does, unread_does}
use Rattle.onll_eras.specs.EraCall.{call_next, call_work, era_found}
use Rattle.onll_eras.specs.Names.{names_of}
use Rattle.onll_eras.proofs.Asking.{gave_does}
use Rattle.onll_eras.proofs.walk.over_one.Goals as goal

pub returns-in-Ok : goal.returns-in-Ok
returns-in-Ok g c =
    let k = kind_by g.O.Object.means g.O.Texted.wording g.O.Object.CODE in
    let era = c.args.era in
    record {
      does = read_does (call_next c.args.call era.newest.now (era_found era) k c.args.object) c.in-Ok.ensures.stage
          (gave_does (call_work c.args.call).writes (g.S.Store.seen c.recover_files.new.store) (g.S.Store.seen c.over_recovery.new.store) (names_of c.args.call.files) c.args.call.threads era k
          c.args.object c.recover_files.new.object (recovered_in c.in-Ok.recovery) c.over_recovery.result c.args.call.asked c.in-Ok.ensures.state c.over_recovery.ensures);
    }

pub returns : goal.returns
returns g c =
    let k = kind_by g.O.Object.means g.O.Texted.wording g.O.Object.CODE in
    record { does = unread_does (call_work c.args.call).writes (call_next c.args.call c.args.era.newest.now (era_found c.args.era) k c.args.object) c.in-Err.ensures.stage }
