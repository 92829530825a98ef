use Rattle.onll_keeps.proofs.Ordering.{ordered}
use Rattle.onll_keeps.proofs.orders.order_law.Goals as goal

pub returns : goal.returns
returns g c = ordered g.O.Object.means g.O.Orders.since g.O.Orders.then_so c.ordered_so.ensures.begins c.ordered_so.ensures.goes_on
    c.ordered_so.ensures.follows
