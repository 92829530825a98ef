use Rattle.std.proofs.Common.{◌∙◌}
use Rattle.onll_serve.proofs.Linking as linking
use Rattle.onll_serve.proofs.laws.next_law.Goals as goal

pub returns : goal.returns
returns g c =
    linking.next_law g.O.Object.means g.S.Dev.Pmem.means g.S.Store.seen g.W.Work.promise
    (λ new on d. c.told_law.ensures d ∙ g.met.S.Store.devices_tell new on)
