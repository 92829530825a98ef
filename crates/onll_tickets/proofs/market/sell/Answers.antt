use Rattle.std.proofs.lemmas.Result.{IfOk-weaker}
use Rattle.onll_tickets.specs.Sales.{tickets_left}
use Rattle.onll_tickets.specs.Selling.{drawn_by}
use Rattle.onll_tickets.proofs.market.sell.Goals as goal

pub returns-clause-once : goal.returns-clause-once
returns-clause-once g c =
    IfOk-weaker c.serve.result _ _ (λ s served h. c.account_law.ensures tickets_left drawn_by _ _ _ _ _ _ s h) c.serve.ensures.served
