use Rattle.onll_jobs.proofs.Shown.{content_placed, content_object}
use Rattle.onll_jobs.proofs.ShowDetermined.{show_says}
use Rattle.onll_task.proofs.Stages.{report_does}
use Rattle.onll_jobs.proofs.show.shown.Goals as goal

pub report-requires-clause-placed : goal.report-requires-clause-placed
report-requires-clause-placed c = content_placed c.args.image.now c.in-Some.cursor.content c.in-Some.ensures.0

pub report-requires-clause-object : goal.report-requires-clause-object
report-requires-clause-object c = content_object c.args.image.now c.in-Some.cursor.content c.in-Some.ensures.0

pub returns-in_ok-report-in-Some : goal.returns-in_ok-report-in-Some
returns-in_ok-report-in-Some c store =
    let content = c.in-Some.cursor.content in
    let text = c.in_ok-report-in-Some.field-0 in
    let ensures = c.in_ok-report-in-Some.ensures in
    rw c.in-Some.ensures.0 (report_does store text ensures.report (show_says content text.items ensures.report ensures.reads))
