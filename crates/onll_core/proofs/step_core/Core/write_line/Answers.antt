use Rattle.onll_core.proofs.Closings.{write_made, may_write_here}
use Rattle.onll_core.proofs.Rows.{write_fills}
use Rattle.onll_core.proofs.step_core.Core.write_line.Goals as goal

pub write-requires-clause-within : goal.write-requires-clause-within
write-requires-clause-within g c κs within = (may_write_here g.O.Object.means _ _ c.self.inside.locals.items _ c.self.invariant c.args.self.now c.self.view_is c.args.thread c.index_mut-worker.result.now c.requires.there c.index_mut-worker.ensures.value c.args.place c.args.below c.args.line c.requires.next).within

pub write-requires-clause-fills : goal.write-requires-clause-fills
write-requires-clause-fills g c κs within = write_fills g.O.Object.means _ _ c.self.inside.locals.items _ c.self.invariant c.args.self.now c.self.view_is c.args.thread c.index_mut-worker.result.now c.requires.there c.index_mut-worker.ensures.value c.args.place c.args.below c.args.line c.requires.next c.entry_line-value.result.w c.entry_line-value.ensures

pub invariant_of-self : goal.invariant_of-self
invariant_of-self g c = (write_made g.O.Object.means _ _ c.self.inside.locals.items _ c.self.invariant c.args.self.now c.self.view_is c.args.thread c.index_mut-worker.result.now c.requires.there c.index_mut-worker.ensures.value c.args.place c.args.below c.args.line c.requires.next c.entry_line-value.result.w c.entry_line-value.ensures c.write.new.self c.write.ensures).kept

pub returns : goal.returns
returns g c = (write_made g.O.Object.means _ _ c.self.inside.locals.items _ c.self.invariant c.args.self.now c.self.view_is c.args.thread c.index_mut-worker.result.now c.requires.there c.index_mut-worker.ensures.value c.args.place c.args.below c.args.line c.requires.next c.entry_line-value.result.w c.entry_line-value.ensures c.write.new.self c.write.ensures).done
