use Rattle.std.proofs.Common.{◌≡◌, drop}
use Rattle.onll_pmem.specs.Pmem.{words_of}
use Rattle.onll_log.specs.Grammar.{all_named}
use Rattle.onll_log.proofs.entry.are_named.Given as goal

abbrev pub invariant-loop-line : goal.invariant-loop-line
invariant-loop-line l = all_named l.top (words_of (drop l.line-index l.lines)) ≡ all_named l.top (words_of l.lines)
