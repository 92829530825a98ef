use Rattle.onll_text.specs.Kinds.{kind_by}
use Rattle.onll_task.proofs.Stages.{read_does, stop_does}
use Rattle.onll_recovery.specs.DetectJob.{detect_logs_task}
use Rattle.onll_recovery.proofs.detect.detect_on.Goals as goal

pub returns-in-Ok : goal.returns-in-Ok
returns-in-Ok g c =
    read_does (detect_logs_task (kind_by g.O.Object.means g.O.Texted.wording g.O.Object.CODE) c.args.init.now c.args.object c.args.logs.now) c.in-Ok.ensures.begins
    (rw c.deref.ensures.value at c.detect_scripts.ensures)

pub returns-in-Err : goal.returns-in-Err
returns-in-Err g c =
    stop_does (detect_logs_task (kind_by g.O.Object.means g.O.Texted.wording g.O.Object.CODE) c.args.init.now c.args.object c.args.logs.now) c.in-Err.ensures.begins
