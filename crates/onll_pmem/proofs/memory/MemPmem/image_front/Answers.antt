use Rattle.onll_pmem.proofs.Images.{Kept-alike}
use Rattle.onll_pmem.proofs.memory.MemPmem.image_front.Goals as goal

pub returns-then-are_alike-clause-exact : goal.returns-then-are_alike-clause-exact
returns-then-are_alike-clause-exact c =
    let s = c.self.inside in
    rw (← c.self.view_is) ((Kept-alike c.args.keep s.fenced s.read c.held.result.now c.held-held.result.now c.self.invariant.as_fenced
    c.held.ensures.zeros c.held-held.ensures.zeros (c.are_alike.ensures c.if-are_alike.true)).0)

pub returns-then-are_alike-clause-member : goal.returns-then-are_alike-clause-member
returns-then-are_alike-clause-member c =
    let s = c.self.inside in
    rw (← c.self.view_is) ((Kept-alike c.args.keep s.fenced s.read c.held.result.now c.held-held.result.now c.self.invariant.as_fenced
    c.held.ensures.zeros c.held-held.ensures.zeros (c.are_alike.ensures c.if-are_alike.true)).1)
