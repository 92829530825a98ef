use Rattle.std.proofs.Common.{[]}
use Rattle.onll_merge.specs.Recovered.{recovered_in}
use Rattle.onll_recovery.proofs.Determined.{replay_says}
use Rattle.onll_task.proofs.Stages.{report_does, none_does}
use Rattle.onll_recovery.proofs.crashed.answer_from.Goals as goal

pub returns-in-Ok : goal.returns-in-Ok
returns-in-Ok g c store =
    let recovered = recovered_in c.in-Ok.recovery in
    let text = c.in_ok-report-in-Ok.field-0 in
    rw c.in-Ok.ensures.recovered (report_does store text c.in_ok-report-in-Ok.ensures.report
    (replay_says g.O.Object.means g.O.Texted.wording c.args.resumed c.args.core.now c.args.keep recovered text.items c.in_ok-report-in-Ok.ensures.report c.in_ok-report-in-Ok.ensures.reads))

pub returns-in_err-report-in-Ok : goal.returns-in_err-report-in-Ok
returns-in_err-report-in-Ok g c store = none_does [] store _ c.from_residual-in_err-report-in-Ok.ensures.1

pub returns-in_err-object : goal.returns-in_err-object
returns-in_err-object g c store = none_does [] store _ c.from_residual.ensures.1
