use Rattle.std.proofs.Common.{◌∙◌}
use Rattle.onll_core.proofs.Rows.{tail_unseen, if_running}
use Rattle.onll_core.proofs.step_core.Core.begin_read.Goals as goal

pub answer-requires-clause-unseen : goal.answer-requires-clause-unseen
answer-requires-clause-unseen g c κs within = tail_unseen g.O.Object.means _ _ c.self.inside.locals.items _ c.self.invariant c.args.self.now c.self.view_is c.args.thread c.args.query c.requires.next c.len-front.result (c.len-front.ensures ∙ c.self.inside.trace.ok.0) c.if-front-base.true

pub answer-requires-clause-running : goal.answer-requires-clause-running
answer-requires-clause-running g c κs within = if_running g.O.Object.means _ _ c.self.inside.locals.items _ c.self.invariant c.args.self.now c.self.view_is c.args.thread _ _ c.requires.next
