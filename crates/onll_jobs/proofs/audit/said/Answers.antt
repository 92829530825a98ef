use Rattle.std.proofs.Common.{[]}
use Rattle.onll_words.specs.Texts.{line_text}
use Rattle.onll_task.specs.declared.ending.Ending.TheVariants.{Judged}
use Rattle.onll_task.proofs.Stages.{report_does, none_does, says_does}
use Rattle.onll_jobs.specs.AuditJob.{wrong_line}
use Rattle.onll_jobs.proofs.audit.said.Goals as goal

pub returns-in_ok-legal-in-Legal : goal.returns-in_ok-legal-in-Legal
returns-in_ok-legal-in-Legal c store =
    let text = c.in_ok-legal-in-Legal.field-0 in
    let e = c.in_ok-legal-in-Legal.ensures in
    rw c.in-Legal.is (report_does store text e e)

pub returns-in_err-legal-in-Legal : goal.returns-in_err-legal-in-Legal
returns-in_err-legal-in-Legal c store = none_does [] store _ c.from_residual.ensures.1

pub returns-in-Wrong : goal.returns-in-Wrong
returns-in-Wrong c store =
    rw c.in-Wrong.is (says_does store Judged (line_text (wrong_line c.in-Wrong.line c.in-Wrong.why)) c.wrong.result (λ e. cc e) c.wrong.ensures)
