use Rattle.std.proofs.Common.{sym}
use Rattle.onll_text.specs.Kinds.{kind_by}
use Rattle.onll_recovery.specs.ReplayJob.{schedule_task}
use Rattle.onll_task.proofs.Stages.{read_does, unread_does}
use Rattle.onll_recovery.proofs.replay.replay_on.Goals as goal

pub returns-in-Ok : goal.returns-in-Ok
returns-in-Ok g c =
    read_does (schedule_task (kind_by g.O.Object.means g.O.Texted.wording g.O.Object.CODE) c.args.texts.now.init.now c.args.object c.args.texts.now.schedule.now c.args.texts.now.logs.now) c.in-Ok.ensures.begins
    (rw (sym c.in-Ok.ensures.count) c.replay_scripts.ensures)

pub returns-in-Err : goal.returns-in-Err
returns-in-Err g c =
    unread_does _ (schedule_task (kind_by g.O.Object.means g.O.Texted.wording g.O.Object.CODE) c.args.texts.now.init.now c.args.object c.args.texts.now.schedule.now c.args.texts.now.logs.now) c.in-Err.ensures.begins
