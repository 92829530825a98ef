use Rattle.onll_task.proofs.Stages.{read_does, stop_does}
use Rattle.onll_jobs.specs.AuditJob.{verdict_task}
use Rattle.onll_jobs.proofs.audit.audit_file.Goals as goal

pub returns-in-Ok : goal.returns-in-Ok
returns-in-Ok g c = read_does verdict_task c.in-Ok.ensures (c.said.ensures (g.S.Store.seen c.judge_file.new.store))

pub returns-in-Err : goal.returns-in-Err
returns-in-Err g c = stop_does verdict_task c.in-Err.ensures
