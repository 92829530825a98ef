use Rattle.std.proofs.Common.{◌≡◌, ap, length, arith}
use Rattle.onll_core.proofs.Rows.{set_made, own_set, own_unseen, running_here}
use Rattle.onll_core.proofs.step_core.Core.set_flag.Goals as goal

pub reply_at-reply-requires-clause-forward : goal.reply_at-reply-requires-clause-forward
reply_at-reply-requires-clause-forward g c κs within = own_unseen g.O.Object.means _ _ c.self.inside.locals.items _ c.self.invariant c.args.self.now c.self.view_is c.args.thread c.args.op c.args.place c.args.below c.requires.next c.index_mut-local.result.now c.index_mut-local.ensures.value

pub reply_at-reply-requires-clause-within : goal.reply_at-reply-requires-clause-within
reply_at-reply-requires-clause-within g c κs within = let h = (own_set g.O.Object.means _ _ c.self.inside.locals.items _ c.self.invariant c.args.self.now c.self.view_is c.args.thread c.args.op c.args.place c.args.below c.requires.next).in_trace in let e : length c.deref.result.now ≡ length c.self.inside.trace.items = ap length c.deref.ensures.value in omega arith

pub put_returned-requires-after_bounds : goal.put_returned-requires-after_bounds
put_returned-requires-after_bounds g c κs within = running_here g.O.Object.means _ _ c.self.inside.locals.items _ c.self.invariant c.args.self.now c.self.view_is c.args.thread c.index_mut-worker.result.now c.requires.there c.index_mut-worker.ensures.value c.index_mut-local.result.now c.index_mut-local.ensures.value _ _ c.requires.next

pub overflow_sub-place : goal.overflow_sub-place
overflow_sub-place g c = (own_set g.O.Object.means _ _ c.self.inside.locals.items _ c.self.invariant c.args.self.now c.self.view_is c.args.thread c.args.op c.args.place c.args.below c.requires.next).from_one

pub index_mut-requires : goal.index_mut-requires
index_mut-requires g c = let h = (own_set g.O.Object.means _ _ c.self.inside.locals.items _ c.self.invariant c.args.self.now c.self.view_is c.args.thread c.args.op c.args.place c.args.below c.requires.next).in_trace in let one = (own_set g.O.Object.means _ _ c.self.inside.locals.items _ c.self.invariant c.args.self.now c.self.view_is c.args.thread c.args.op c.args.place c.args.below c.requires.next).from_one in let e = c.self.inside.flags.ok.0 in let s : length c.self.inside.flags.items ≡ length c.self.inside.trace.items = c.self.invariant.consistent.sound.flags in omega arith

pub invariant_of-self : goal.invariant_of-self
invariant_of-self g c = (set_made g.O.Object.means _ _ c.self.inside.locals.items _ c.self.invariant c.args.self.now c.self.view_is c.args.thread c.index_mut-worker.result.now c.requires.there c.index_mut-worker.ensures.value c.index_mut-local.result.now c.index_mut-local.ensures.value c.args.op c.args.place c.args.below c.requires.next c.reply_at-reply.result c.reply_at-reply.new.self c.put_returned.new.self c.began.result (rw c.deref.ensures.value at c.reply_at-reply.ensures.reply) (rw c.deref.ensures.value at c.reply_at-reply.ensures.moved) c.began.ensures c.put_returned.ensures).kept

pub returns : goal.returns
returns g c = (set_made g.O.Object.means _ _ c.self.inside.locals.items _ c.self.invariant c.args.self.now c.self.view_is c.args.thread c.index_mut-worker.result.now c.requires.there c.index_mut-worker.ensures.value c.index_mut-local.result.now c.index_mut-local.ensures.value c.args.op c.args.place c.args.below c.requires.next c.reply_at-reply.result c.reply_at-reply.new.self c.put_returned.new.self c.began.result (rw c.deref.ensures.value at c.reply_at-reply.ensures.reply) (rw c.deref.ensures.value at c.reply_at-reply.ensures.moved) c.began.ensures c.put_returned.ensures).done
