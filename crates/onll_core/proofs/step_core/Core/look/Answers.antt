use Rattle.std.proofs.Common.{◌∙◌, sym}
use Rattle.onll_core.proofs.Rows.{flag_unseen, flag_low, base_unseen, if_running}
use Rattle.onll_core.proofs.step_core.Core.look.Goals as goal

pub answer-requires-clause-unseen : goal.answer-requires-clause-unseen
answer-requires-clause-unseen g c κs within = flag_unseen g.O.Object.means _ _ c.self.inside.locals.items _ c.self.invariant c.args.self.now c.self.view_is c.args.thread c.args.query c.args.front c.args.next c.requires.next

pub answer-requires-clause-within : goal.answer-requires-clause-within
answer-requires-clause-within g c κs within = flag_low g.O.Object.means _ _ c.self.inside.locals.items _ c.self.invariant c.args.self.now c.self.view_is c.args.thread c.args.query c.args.front c.args.next c.requires.next

pub answer-requires-clause-running : goal.answer-requires-clause-running
answer-requires-clause-running g c κs within = if_running g.O.Object.means _ _ c.self.inside.locals.items _ c.self.invariant c.args.self.now c.self.view_is c.args.thread _ _ c.requires.next

pub answer-requires-then-next-base-clause-unseen : goal.answer-requires-then-next-base-clause-unseen
answer-requires-then-next-base-clause-unseen g c κs within = base_unseen g.O.Object.means _ _ c.self.inside.locals.items _ c.self.invariant c.args.self.now c.self.view_is c.args.thread c.args.query c.args.front c.args.next c.requires.next (sym (rw c.deref.ensures.value at c.is_available.ensures) ∙ c.if-is_available.false) c.if-next-base.true

pub answer-requires-then-next-base-clause-running : goal.answer-requires-then-next-base-clause-running
answer-requires-then-next-base-clause-running g c κs within = if_running g.O.Object.means _ _ c.self.inside.locals.items _ c.self.invariant c.args.self.now c.self.view_is c.args.thread _ _ c.requires.next
