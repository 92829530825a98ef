use Rattle.std.proofs.Common.{◌<◌, length}
use Rattle.onll_core.proofs.Rows.{answer_ahead, answer_made}
use Rattle.onll_core.proofs.Closings.{of_thread}
use Rattle.onll_core.proofs.step_core.Core.answer.Goals as goal

pub answer_at-reply-requires-clause-forward : goal.answer_at-reply-requires-clause-forward
answer_at-reply-requires-clause-forward g c κs within = answer_ahead g.O.Object.means _ _ c.self.inside.locals.items _ c.self.invariant c.args.self.now c.self.view_is c.args.thread c.requires.there c.index_mut-local.result.now c.index_mut-local.ensures.value c.args.place c.requires.unseen

pub put_returned-requires-after_bounds : goal.put_returned-requires-after_bounds
put_returned-requires-after_bounds g c κs within = of_thread g.O.Object.means _ _ c.self.inside.locals.items _ c.self.invariant c.args.self.now c.self.view_is c.args.thread c.index_mut-worker.result.now c.requires.there c.index_mut-worker.ensures.value (λ s z. length z.returned < length z.script) c.requires.running

pub invariant_of-self : goal.invariant_of-self
invariant_of-self g c = (answer_made g.O.Object.means _ _ c.self.inside.locals.items _ c.self.invariant c.args.self.now c.self.view_is c.args.thread c.index_mut-worker.result.now c.requires.there c.index_mut-worker.ensures.value c.index_mut-local.result.now c.index_mut-local.ensures.value c.args.query c.args.place c.args.began c.requires.step (answer_ahead g.O.Object.means _ _ c.self.inside.locals.items _ c.self.invariant c.args.self.now c.self.view_is c.args.thread c.requires.there c.index_mut-local.result.now c.index_mut-local.ensures.value c.args.place c.requires.unseen) c.answer_at-reply.result c.answer_at-reply.new.self c.put_returned.new.self (rw c.deref.ensures.value at c.answer_at-reply.ensures.answer) (rw c.deref.ensures.value at c.answer_at-reply.ensures.moved) c.put_returned.ensures).kept

pub returns : goal.returns
returns g c = (answer_made g.O.Object.means _ _ c.self.inside.locals.items _ c.self.invariant c.args.self.now c.self.view_is c.args.thread c.index_mut-worker.result.now c.requires.there c.index_mut-worker.ensures.value c.index_mut-local.result.now c.index_mut-local.ensures.value c.args.query c.args.place c.args.began c.requires.step (answer_ahead g.O.Object.means _ _ c.self.inside.locals.items _ c.self.invariant c.args.self.now c.self.view_is c.args.thread c.requires.there c.index_mut-local.result.now c.index_mut-local.ensures.value c.args.place c.requires.unseen) c.answer_at-reply.result c.answer_at-reply.new.self c.put_returned.new.self (rw c.deref.ensures.value at c.answer_at-reply.ensures.answer) (rw c.deref.ensures.value at c.answer_at-reply.ensures.moved) c.put_returned.ensures).done
