use Rattle.std.proofs.Common.{◌≡◌, take}
use Rattle.onll_pmem.specs.Pmem.{words_of}
use Rattle.onll_pmem.proofs.image.are_alike.Given as goal

abbrev pub invariant-loop-i : goal.invariant-loop-i
invariant-loop-i l = words_of (take l.i l.fenced) ≡ words_of (take l.i l.read)
