use Rattle.std.proofs.Common.{◌≡◌, ◌<◌, length, rules}
use Rattle.onll_shipping.proofs.EightWords.{eight_more}
use Rattle.onll_shipping.proofs.turns.eight_words.Goals as goal

pub loop-i-preserved : goal.loop-i-preserved
loop-i-preserved c =
    let eight : length c.line_of.result.w ≡ 8 = search rules in
    let low : c.loop-i.i < length c.args.lines.now = search rules in
    eight_more c.args.lines.now c.loop-i.i c.line_of.result.w low c.line_of.ensures eight c.loop-i.invariant
