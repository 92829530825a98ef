use Rattle.std.proofs.Common.{arith}
use Rattle.onll_core.proofs.Rows.{linked_few, nodes_left, flags_left, link_made}
use Rattle.onll_core.proofs.step_core.Core.link.Goals as goal

pub overflow_add-local : goal.overflow_add-local
overflow_add-local g c = let h = linked_few g.O.Object.means _ _ c.self.inside.locals.items _ c.self.invariant c.args.self.now c.self.view_is c.args.thread c.args.op c.args.loaded c.requires.next c.index_mut-local.result.now c.index_mut-local.ensures.value in omega arith

pub push_reserved-requires : goal.push_reserved-requires
push_reserved-requires g c = nodes_left g.O.Object.means _ _ c.self.inside.locals.items _ c.self.invariant c.args.self.now c.self.view_is c.args.thread c.args.op c.args.loaded c.requires.next _ c.self.inside.trace.ok.0

pub push_reserved-requires-2 : goal.push_reserved-requires-2
push_reserved-requires-2 g c = flags_left g.O.Object.means _ _ c.self.inside.locals.items _ c.self.invariant c.args.self.now c.self.view_is c.args.thread c.args.op c.args.loaded c.requires.next _ c.self.inside.flags.ok.0

pub invariant_of-self : goal.invariant_of-self
invariant_of-self g c = (link_made g.O.Object.means _ _ c.self.inside.locals.items _ c.self.invariant c.args.self.now c.self.view_is c.args.thread c.index_mut-worker.result.now c.requires.there c.index_mut-worker.ensures.value c.index_mut-local.result.now c.index_mut-local.ensures.value c.args.op c.args.loaded c.requires.next c.requires.same c.push_reserved.new.self.items c.push_reserved-2.new.self.items c.turn.new.self _ _ (rw c.op_row.ensures at c.push_reserved.ensures.items) c.push_reserved-2.ensures.items c.after_exchange-phase.result c.after_exchange-phase.ensures c.turn.ensures c.push_reserved.ensures.capacity c.push_reserved-2.ensures.capacity).kept

pub returns : goal.returns
returns g c = (link_made g.O.Object.means _ _ c.self.inside.locals.items _ c.self.invariant c.args.self.now c.self.view_is c.args.thread c.index_mut-worker.result.now c.requires.there c.index_mut-worker.ensures.value c.index_mut-local.result.now c.index_mut-local.ensures.value c.args.op c.args.loaded c.requires.next c.requires.same c.push_reserved.new.self.items c.push_reserved-2.new.self.items c.turn.new.self _ _ (rw c.op_row.ensures at c.push_reserved.ensures.items) c.push_reserved-2.ensures.items c.after_exchange-phase.result c.after_exchange-phase.ensures c.turn.ensures c.push_reserved.ensures.capacity c.push_reserved-2.ensures.capacity).done
