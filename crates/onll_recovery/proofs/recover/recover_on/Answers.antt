use Rattle.std.proofs.Common.{[], ap, ◌∙◌}
use Rattle.std.specs.List.{flat_map}
use Rattle.onll_words.specs.Texts.{line_text}
use Rattle.onll_merge.specs.Recovered.{recovered_in}
use Rattle.onll_text.specs.Kinds.{kind_by}
use Rattle.onll_recovery.specs.RecoverJob.{lines_with, recovered_task}
use Rattle.onll_recovery.proofs.Determined.{recover_says}
use Rattle.onll_task.proofs.Stages.{read_does, stop_does, report_does, none_does}
use Rattle.onll_recovery.proofs.recover.recover_on.Goals as goal

pub returns-in_ok-report-in-Ok : goal.returns-in_ok-report-in-Ok
returns-in_ok-report-in-Ok g c =
    let k = kind_by g.O.Object.means g.O.Texted.wording g.O.Object.CODE in
    let recovered = recovered_in c.in-Ok.recovery in
    let text = c.in_ok-report-in-Ok.field-0 in
    let said = c.in_ok-report-in-Ok.ensures in
    read_does (recovered_task k c.args.object.now) c.in-Ok.ensures.stage
    (report_does (g.S.Store.seen c.recover_files.new.store) text (said.report ∙ ap (λ s. flat_map line_text (lines_with k.means k.wording recovered s)) c.in-Ok.ensures.state)
    (recover_says k.means k.wording c.args.object.now c.recover_files.new.object recovered text.items c.in-Ok.ensures.state said.report said.reads))

pub returns-in_err-report-in-Ok : goal.returns-in_err-report-in-Ok
returns-in_err-report-in-Ok g c =
    let k = kind_by g.O.Object.means g.O.Texted.wording g.O.Object.CODE in
    read_does (recovered_task k c.args.object.now) c.in-Ok.ensures.stage (none_does [] (g.S.Store.seen c.recover_files.new.store) _ c.from_residual.ensures.1)

pub returns-in-Err : goal.returns-in-Err
returns-in-Err g c = stop_does (recovered_task (kind_by g.O.Object.means g.O.Texted.wording g.O.Object.CODE) c.args.object.now) c.in-Err.ensures.stage
