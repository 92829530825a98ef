use Rattle.std.proofs.Common.{take, map}
use Rattle.std.specs.List.{AllByRecursion}
use Rattle.onll_pmem.specs.Pmem.{words_of}
use Rattle.onll_log.specs.Torn.{AreLines}
use Rattle.onll_start.proofs.found.told_lines.Given as goal

abbrev pub invariant-loop-image : goal.invariant-loop-image
invariant-loop-image l = AllByRecursion AreLines (take l.image-index (map (λ image. words_of image.items) l.images))
