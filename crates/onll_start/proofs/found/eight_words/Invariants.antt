use Rattle.std.proofs.Common.{take}
use Rattle.onll_pmem.specs.Pmem.{words_of}
use Rattle.onll_log.specs.Torn.{AreLines}
use Rattle.onll_start.proofs.found.eight_words.Given as goal

abbrev pub invariant-loop-i : goal.invariant-loop-i
invariant-loop-i l = AreLines (take l.i (words_of l.image))
