use Rattle.std.proofs.Common.{◌≡◌, ◌+◌, drop, length}
use Rattle.onll_words.specs.Numbers.{run_len, value_after}
use Rattle.onll_words.proofs.number.value_of.Given as goal

abbrev pub invariant-loop-digit : goal.invariant-loop-digit
invariant-loop-digit l = record {
  value : value_after l.value (drop l.digit-index l.digits) ≡ value_after 0 l.digits;
  digits : run_len (drop l.digit-index l.digits) + l.digit-index ≡ length l.digits;
}
