use Rattle.std.proofs.Common.{◌+◌, ◌++◌, drop, ◌∙◌}
use Rattle.std.specs.List.{flat_map}
use Rattle.onll_words.specs.Texts.{line_text}
use Rattle.onll_text.specs.MapText.{pair_line, pair_lines}
use Rattle.onll_text.proofs.MapReadBack.{pair_lines_more}
use Rattle.onll_text.proofs.Keeping.{part_front}
use Rattle.onll_text.proofs.map.put_pairs.Goals as goal

pub returns-in_err-put_pair-clause-within : goal.returns-in_err-put_pair-clause-within
returns-in_err-put_pair-clause-within c =
    let i = c.loop-i.i in
    let pairs = c.args.map.now.pairs in
    let out = c.loop-i.out in
    part_front _ (out ++ line_text (pair_line c.pair.result)) (flat_map line_text (pair_lines (drop (i + 1) pairs))) _
    (pair_lines_more out pairs i c.pair.result c.pair.ensures ∙ c.loop-i.invariant.lines) c.put_pair.ensures.within
