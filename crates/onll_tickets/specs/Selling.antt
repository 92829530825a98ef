-- That no ticket is sold twice, in what buyers did and in whatever a crash leaves of it.
use Rattle.std.proofs.Common.{ℕ, List, arith}
use Rattle.onll_log.specs.declared.head.LogHead.{LogHead}
use Rattle.onll_model.specs.declared.call.Call.{Call}
use Rattle.onll_model.specs.declared.call.CallEnd.{CallEnd}
use Rattle.onll_outside.specs.Views.{StoreView}
use Rattle.onll_pmem.specs.Pmem.{DeviceView}
use Rattle.onll_balance.specs.Measure.{out_by}
use Rattle.onll_keeps.specs.Accounts.{Account, ServesEvenly}
use Rattle.onll_keeps.specs.Tallies.{SaysTally}
use Rattle.onll_keeps.proofs.Tallying.{none_back}
use Rattle.onll_serve.specs.declared.service.Served.{Served}
use Rattle.onll_tickets.specs.declared.buyer.Bought.{Bought}
use Rattle.onll_tickets.specs.declared.buyer.Buyer.{Buyer}
use Rattle.onll_tickets.specs.declared.tickets.Tickets.{Tickets}
use Rattle.onll_tickets.specs.declared.tickets.TicketOp.{TicketOp}
use Rattle.onll_tickets.specs.declared.tickets.TicketQuery.{TicketQuery}
use Rattle.onll_tickets.specs.declared.tickets.TicketReply.{TicketReply}
use Rattle.onll_tickets.specs.Sales.{taken, tickets_left}

-- a buyer says how many tickets its calls took
abbrev pub says_drawn : {R : Type 0} → Buyer R → Buyer R → List (Call Tickets TicketOp TicketQuery TicketReply)
    → List (CallEnd Tickets TicketOp TicketQuery TicketReply) → Bought → Type 0
says_drawn old new calls ends bought = SaysTally (out_by taken) (λ (b : Bought). b.drawn) old new calls ends bought

-- so the tickets that buyers say are those that were taken, and none is put back
abbrev pub drawn_by : {R : Type 0} → Account tickets_left (says_drawn {R = R})
drawn_by = record {
  out = λ bought. bought.drawn;
  back = λ bought. 0;
  outs = λ old new calls ends bought said. omega (arith, said);
  backs = λ old new calls ends bought said. (let none = none_back calls ends in omega (arith, none));
}

-- In whatever way buyers were served: what they say that they drew, and what is left, are no more than what the files left; also of
-- whatever a crash leaves, with all that was said. So no ticket is sold twice.
abbrev pub SellsOnce : {R Device : Type 0} → (Device → DeviceView) → StoreView → List ℕ → List LogHead → Tickets → List (Buyer R)
    → StoreView → Served Tickets Device (Buyer R) Bought TicketOp TicketQuery TicketReply → Type 0
SellsOnce means store logs heads state buyers new served =
    ServesEvenly tickets_left says_drawn means drawn_by store logs heads state buyers new served
