use Rattle.std.proofs.Common.{sym, subst}
use Rattle.onll_pmem.specs.Pmem.{words_of}
use Rattle.onll_outside.specs.LineFiles.{IsGathered}
use Rattle.onll_outside.proofs.Gathering.{none_gathered}
use Rattle.onll_outside.proofs.disk.read_lines.Goals as goal

pub read_parts-requires-clause-gathered : goal.read_parts-requires-clause-gathered
read_parts-requires-clause-gathered g c = subst (λ ls. IsGathered (words_of ls) 0) (sym c.in_ok-with_capacity.ensures.items) none_gathered
