use Rattle.onll_core.proofs.Closings.{back_made, may_write_back_here}
use Rattle.onll_core.proofs.step_core.Core.write_back.Goals as goal

pub write_back-requires-after_bounds : goal.write_back-requires-after_bounds
write_back-requires-after_bounds g c κs within = (may_write_back_here g.O.Object.means _ _ c.self.inside.locals.items _ c.self.invariant c.args.self.now c.self.view_is c.args.thread c.index_mut-worker.result.now c.requires.there c.index_mut-worker.ensures.value c.args.place c.args.below c.args.line c.requires.next).within

pub invariant_of-self : goal.invariant_of-self
invariant_of-self g c = (back_made g.O.Object.means _ _ c.self.inside.locals.items _ c.self.invariant c.args.self.now c.self.view_is c.args.thread c.index_mut-worker.result.now c.requires.there c.index_mut-worker.ensures.value c.args.place c.args.below c.args.line c.requires.next c.next_line-phase.result c.next_line-phase.ensures c.write_back.new.self c.write_back.ensures).kept

pub returns : goal.returns
returns g c = (back_made g.O.Object.means _ _ c.self.inside.locals.items _ c.self.invariant c.args.self.now c.self.view_is c.args.thread c.index_mut-worker.result.now c.requires.there c.index_mut-worker.ensures.value c.args.place c.args.below c.args.line c.requires.next c.next_line-phase.result c.next_line-phase.ensures c.write_back.new.self c.write_back.ensures).done
