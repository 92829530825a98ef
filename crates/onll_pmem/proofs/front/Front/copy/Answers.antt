use Rattle.onll_pmem.proofs.Lines.{EightWords-zeros}
use Rattle.onll_pmem.proofs.front.Front.copy.Goals as goal

pub returns-clause-eight : goal.returns-clause-eight
returns-clause-eight c = EightWords-zeros _ _ c.in_ok-copied.ensures.eight
