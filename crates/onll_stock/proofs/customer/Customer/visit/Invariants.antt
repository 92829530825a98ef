use Rattle.onll_stock.specs.Sales.{HasDealt}
use Rattle.onll_stock.proofs.customer.Customer.visit.Given as goal

abbrev pub invariant-loop-turn : goal.invariant-loop-turn
invariant-loop-turn g l = HasDealt g.P.Pmem.means g.B.Begun.first l.deal l.seat
