use Rattle.std.proofs.Common.{◌≡◌, ◌<◌, length, rules}
use Rattle.onll_start.proofs.Lines.{eight_more}
use Rattle.onll_start.proofs.found.eight_words.Goals as goal

pub loop-i-preserved : goal.loop-i-preserved
loop-i-preserved c =
    let eight : length c.line_of.result.w ≡ 8 = search rules in
    let low : c.loop-i.i < length c.args.image.now = search rules in
    eight_more c.args.image.now c.loop-i.i c.line_of.result.w low c.line_of.ensures eight c.loop-i.invariant
