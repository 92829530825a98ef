use Rattle.std.proofs.Common.{◌≡◌, ◌+◌}
use Rattle.onll_core.proofs.Closings.{to_thread, fences_told}
use Rattle.onll_core.proofs.step_core.Core.fences.Goals as goal

pub returns-clause-fences : goal.returns-clause-fences
returns-clause-fences g c = fences_told g.O.Object.means _ _ c.self.inside.locals.items _ c.self.invariant c.args.self.now c.self.view_is c.args.thread c.index.result.now c.requires c.index.ensures c.fences.result c.fences.ensures

pub returns-clause-device : goal.returns-clause-device
returns-clause-device g c = to_thread g.O.Object.means _ _ c.self.inside.locals.items _ c.self.invariant c.args.self.now c.self.view_is c.args.thread c.index.result.now c.requires c.index.ensures (λ s th. c.fences.result + th.before ≡ th.device.fences) c.fences.ensures
