use Rattle.onll_task.proofs.Stages.{read_does, unread_does, by_begins, by_stops}
use Rattle.onll_areas.specs.Newest.{newest}
use Rattle.onll_task.specs.Doing.{Fulfils}
use Rattle.std.proofs.Common.{Option, subst}
use Rattle.onll_checkpoint.specs.Checkpoint.{CheckpointState}
use Rattle.onll_task.proofs.Stages.{by_given}
use Rattle.onll_eras.specs.EraCall.{call_next, call_work}
use Rattle.onll_eras.specs.EraJob.{AreaBytes, era_task}
use Rattle.onll_eras.specs.Names.{names_of}
use Rattle.onll_eras.proofs.walk.over_init.Goals as goal

pub returns-in-Ok : goal.returns-in-Ok
returns-in-Ok g c =
    let names = names_of c.args.call.files in
    let given = by_given c.in-Ok.ensures in
    read_does (λ (held : AreaBytes). era_task names c.args.first.text.items c.args.call.threads c.args.first.object (newest held.even held.odd) (call_next c.args.call)) (by_begins c.in-Ok.ensures)
    (subst (λ (n : Option CheckpointState). Fulfils (call_work c.args.call).writes (g.S.Store.seen c.newest_area.new.store) (g.S.Store.seen c.over_newest.new.store)
    (era_task names c.args.first.text.items c.args.call.threads c.args.first.object n (call_next c.args.call)) c.over_newest.result) given.fits c.over_newest.ensures)

pub returns-in-Err : goal.returns-in-Err
returns-in-Err g c =
    let names = names_of c.args.call.files in
    unread_does (call_work c.args.call).writes
    (λ (held : AreaBytes). era_task names c.args.first.text.items c.args.call.threads c.args.first.object (newest held.even held.odd) (call_next c.args.call))
    (by_stops {value = λ (held : AreaBytes). held} c.in-Err.ensures)
