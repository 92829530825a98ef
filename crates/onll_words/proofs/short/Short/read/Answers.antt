use Rattle.std.proofs.Common.{rules}
use Rattle.onll_words.proofs.Packing.{packed_inside}
use Rattle.onll_words.proofs.short.Short.read.Goals as goal

pub invariant_of-result : goal.invariant_of-result
invariant_of-result c = packed_inside c.args.text.now c.packed-words.result (search rules) c.packed-words.ensures
