use Rattle.onll_tickets.specs.Sales.{HasDrawn}
use Rattle.onll_tickets.proofs.buyer.BuyerWorkPlainTickets.work.Given as goal

abbrev pub invariant-loop-drawn : goal.invariant-loop-drawn
invariant-loop-drawn g l = HasDrawn g.P.Pmem.means g.B.Begun.first l.drawn l.seat
