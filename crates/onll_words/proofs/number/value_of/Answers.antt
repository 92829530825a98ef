use Rattle.std.proofs.Common.{arith, drop, ◌+◌, ◌-◌, ◌*◌, slice_index_or, ap, sym, ◌∙◌}
use Rattle.std.proofs.lemmas.List.{drop_more}
use Rattle.onll_words.specs.Numbers.{value_after}
use Rattle.onll_words.proofs.Values.{value_grows}
use Rattle.onll_words.proofs.number.value_of.Goals as goal

pub returns-in-None : goal.returns-in-None
returns-in-None c =
    let ds = c.args.digits.now in
    let i = c.loop-digit.digit-index in
    let d = slice_index_or ds i 0 in
    let e = drop_more ds i 0 (omega arith) in
    let v = ap (value_after c.loop-digit.value) (sym e) ∙ c.loop-digit.invariant.value in
    omega (arith, v, value_grows (drop (i + 1) ds) (c.loop-digit.value * 10 + (d - 48)), c.in-None.ensures, c.from.ensures)
