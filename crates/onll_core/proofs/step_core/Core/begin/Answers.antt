use Rattle.onll_core.proofs.Closings.{begin_made}
use Rattle.onll_core.proofs.step_core.Core.begin.Goals as goal

pub invariant_of-self : goal.invariant_of-self
invariant_of-self g c = (begin_made g.O.Object.means _ _ c.self.inside.locals.items _ c.self.invariant c.args.self.now c.self.view_is c.args.thread c.index_mut-worker.result.now c.requires.there c.index_mut-worker.ensures.value c.begin.new.self c.args.phase c.begin.ensures c.requires.step).kept

pub returns : goal.returns
returns g c = (begin_made g.O.Object.means _ _ c.self.inside.locals.items _ c.self.invariant c.args.self.now c.self.view_is c.args.thread c.index_mut-worker.result.now c.requires.there c.index_mut-worker.ensures.value c.begin.new.self c.args.phase c.begin.ensures c.requires.step).done
