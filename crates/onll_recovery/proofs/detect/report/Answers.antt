use Rattle.std.proofs.Common.{map, ◌∙◌}
use Rattle.onll_recovery.proofs.Detects.{all_lines}
use Rattle.onll_recovery.proofs.detect.report.Goals as goal

pub returns : goal.returns
returns g c =
    c.into_bytes.ensures
    ∙ all_lines g.O.Texted.wording c.args.outcomes.now (map (λ script. script.items) c.args.scripts.now) c.args.nodes _ _ _ c.new-out.ensures c.in_ok-put_scripts.ensures.lines c.in_ok-put_count.ensures.lines
