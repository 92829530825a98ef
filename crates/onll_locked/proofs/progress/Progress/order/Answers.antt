use Rattle.std.proofs.Common.{arith}
use Rattle.onll_locked.proofs.Places.{order_made, few_ordered}
use Rattle.onll_locked.proofs.progress.Progress.order.Goals as goal

pub overflow_add-self : goal.overflow_add-self
overflow_add-self g c = let h = few_ordered _ _ _ _ c.self.invariant in let size = c.self.inside.ends.small in let same = c.self.inside.ends.ok.0 in omega arith

pub invariant_of-self : goal.invariant_of-self
invariant_of-self g c = order_made _ _ _ _ c.args.self.now c.self.invariant c.self.view_is _ c.push_reserved.ensures.capacity _ _ c.push_reserved.ensures.items _ c.failed-self-inside.ensures c.requires.node c.requires.whole
