use Rattle.std.proofs.Common.{◌+◌, sym, subst}
use Rattle.onll_keeps.proofs.Tallying.{tallied_out}
use Rattle.onll_tickets.specs.Sales.{HasDrawn}
use Rattle.onll_tickets.proofs.buyer.draw_one.Goals as goal

pub returns : goal.returns
returns g c n drawn =
    subst (λ k. HasDrawn g.P.Pmem.means g.B.Begun.first (n + k) c.update.new.self) (sym c.goes_on.ensures)
    (tallied_out _ _ c.update.result c.update.ensures.acts drawn)
