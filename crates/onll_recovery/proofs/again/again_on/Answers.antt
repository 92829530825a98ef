use Rattle.std.proofs.Common.{map, string_bytes, sym}
use Rattle.onll_text.specs.Kinds.{kind_by}
use Rattle.onll_recovery.specs.AgainJob.{planned_task}
use Rattle.onll_task.proofs.Stages.{read_does, unread_does}
use Rattle.onll_recovery.proofs.again.again_on.Goals as goal

pub returns-in-Ok : goal.returns-in-Ok
returns-in-Ok g c =
    read_does (planned_task (kind_by g.O.Object.means g.O.Texted.wording g.O.Object.CODE) c.args.texts.now.init.now c.args.object c.args.texts.now.schedule.now c.args.texts.now.logs.now (map string_bytes c.args.texts.now.scripts.now)) c.in-Ok.ensures.begins
    (rw (sym c.in-Ok.ensures.count) c.play_again.ensures)

pub returns-in-Err : goal.returns-in-Err
returns-in-Err g c =
    unread_does _ (planned_task (kind_by g.O.Object.means g.O.Texted.wording g.O.Object.CODE) c.args.texts.now.init.now c.args.object c.args.texts.now.schedule.now c.args.texts.now.logs.now (map string_bytes c.args.texts.now.scripts.now)) c.in-Err.ensures.begins
