use Rattle.std.proofs.Common.{rules, ◌∙◌}
use Rattle.onll_log.proofs.Decoding.{is_zero_line-pointwise}
use Rattle.onll_log.proofs.image.is_zero.Goals as goal

pub returns : goal.returns
returns c = c.eq.ensures ∙ is_zero_line-pointwise 8 c.args.line.now.w (search rules)
