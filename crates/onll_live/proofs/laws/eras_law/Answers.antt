use Rattle.std.proofs.Common.{◌∙◌}
use Rattle.onll_live.proofs.Lifetime as lifetime
use Rattle.onll_live.proofs.laws.eras_law.Goals as goal

pub returns : goal.returns
returns g c =
    lifetime.eras_law g.O.Object.means g.S.Dev.Pmem.means g.S.Store.seen g.W.Work.promise
    (λ files on d. c.told_law.ensures d ∙ g.met.S.Store.devices_tell files on)
