use Rattle.std.proofs.Common.{◌≡◌, ◌+◌, drop}
use Rattle.onll_words.specs.Numbers.{run_len}
use Rattle.onll_words.proofs.number.digit_count.Given as goal

abbrev pub invariant-loop-i : goal.invariant-loop-i
invariant-loop-i l = l.i + run_len (drop l.i l.text) ≡ run_len l.text
