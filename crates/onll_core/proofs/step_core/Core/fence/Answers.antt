use Rattle.std.proofs.Common.{arith}
use Rattle.onll_core.proofs.Closings.{fence_made, fence_fits_here}
use Rattle.onll_core.proofs.step_core.Core.fence.Goals as goal

pub overflow_sub-place : goal.overflow_sub-place
overflow_sub-place g c = let h = (fence_fits_here g.O.Object.means _ _ c.self.inside.locals.items _ c.self.invariant c.args.self.now c.self.view_is c.args.thread c.index_mut-worker.result.now c.requires.there c.index_mut-worker.ensures.value c.args.place c.args.below c.requires.next).lower in omega arith

pub fence-requires-after_bounds : goal.fence-requires-after_bounds
fence-requires-after_bounds g c κs within = (fence_fits_here g.O.Object.means _ _ c.self.inside.locals.items _ c.self.invariant c.args.self.now c.self.view_is c.args.thread c.index_mut-worker.result.now c.requires.there c.index_mut-worker.ensures.value c.args.place c.args.below c.requires.next).lines

pub invariant_of-self : goal.invariant_of-self
invariant_of-self g c = (fence_made g.O.Object.means _ _ c.self.inside.locals.items _ c.self.invariant c.args.self.now c.self.view_is c.args.thread c.index_mut-worker.result.now c.requires.there c.index_mut-worker.ensures.value c.args.place c.args.below c.requires.next c.fence.new.self c.fence.ensures).kept

pub returns : goal.returns
returns g c = (fence_made g.O.Object.means _ _ c.self.inside.locals.items _ c.self.invariant c.args.self.now c.self.view_is c.args.thread c.index_mut-worker.result.now c.requires.there c.index_mut-worker.ensures.value c.args.place c.args.below c.requires.next c.fence.new.self c.fence.ensures).done
