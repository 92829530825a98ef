use Rattle.onll_text.specs.Kinds.{kind_by}
use Rattle.onll_task.proofs.Stages.{read_does, stop_does}
use Rattle.onll_jobs.specs.AuditJob.{report_judged_task}
use Rattle.onll_jobs.proofs.audit.audit_on.Goals as goal

pub returns-in-Ok : goal.returns-in-Ok
returns-in-Ok g c =
    read_does (report_judged_task (kind_by g.O.Object.means g.O.Texted.wording g.O.Object.CODE) c.args.object c.args.report.now) c.in-Ok.ensures.begins
    (rw c.deref.ensures.value at c.audit_file.ensures)

pub returns-in-Err : goal.returns-in-Err
returns-in-Err g c =
    stop_does (report_judged_task (kind_by g.O.Object.means g.O.Texted.wording g.O.Object.CODE) c.args.object c.args.report.now) c.in-Err.ensures.begins
