use Rattle.std.proofs.Common.{arith}
use Rattle.onll_core.proofs.Rows.{back_small}
use Rattle.onll_core.proofs.step_core.Core.next_line.Goals as goal

pub after_back-requires-clause-within : goal.after_back-requires-clause-within
after_back-requires-clause-within g c = let h = (back_small g.O.Object.means _ _ c.self.inside.locals.items _ c.self.invariant c.args.self.now c.self.view_is c.args.thread c.args.place c.args.below c.args.line c.requires).0 in omega arith

pub after_back-requires-clause-line : goal.after_back-requires-clause-line
after_back-requires-clause-line g c = let h = (back_small g.O.Object.means _ _ c.self.inside.locals.items _ c.self.invariant c.args.self.now c.self.view_is c.args.thread c.args.place c.args.below c.args.line c.requires).1 in omega arith
