use Rattle.std.proofs.Common.{[], length, map, ap, ◌∙◌}
use Rattle.std.specs.List.{flat_map}
use Rattle.onll_words.specs.Texts.{line_text}
use Rattle.onll_recovery.specs.DetectJob.{detect_lines}
use Rattle.onll_task.proofs.Stages.{report_does, none_does}
use Rattle.onll_recovery.proofs.detect.tell.Goals as goal

pub returns-in_ok-report-in-Ok : goal.returns-in_ok-report-in-Ok
returns-in_ok-report-in-Ok g c store =
    let calls = map (λ script. script.items) c.args.scripts.now in
    let text = c.in_ok-report-in-Ok.field-0 in
    let e = c.in_ok-report-in-Ok.ensures
    ∙ ap (λ table. flat_map line_text (detect_lines g.O.Texted.wording table calls (length c.args.nodes.now))) c.in-Ok.ensures.0 in
    report_does store text e e

pub returns-in_err-report-in-Ok : goal.returns-in_err-report-in-Ok
returns-in_err-report-in-Ok g c store = none_does [] store _ c.from_residual.ensures.1
