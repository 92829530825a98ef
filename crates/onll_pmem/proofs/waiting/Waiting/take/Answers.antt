use Rattle.onll_pmem.proofs.Marked.{Lists-taken}
use Rattle.onll_pmem.proofs.waiting.Waiting.take.Goals as goal

pub invariant_of-self-2 : goal.invariant_of-self-2
invariant_of-self-2 c = rw (c.set.ensures, c.in_ok-line.ensures.capacity) (Lists-taken _ _ _ _ _ c.in_ok-line.ensures.items c.self.invariant)
