use Rattle.std.proofs.Common.{◌≡◌, drop}
use Rattle.onll_pmem.specs.Pmem.{words_of}
use Rattle.onll_log.specs.Grammar.{are_zero_lines}
use Rattle.onll_log.proofs.image.are_zero.Given as goal

abbrev pub invariant-loop-line : goal.invariant-loop-line
invariant-loop-line l = are_zero_lines (words_of (drop l.line-index l.lines)) ≡ are_zero_lines (words_of l.lines)
