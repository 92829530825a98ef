use Rattle.std.proofs.lemmas.Result.{IfOk-weaker}
use Rattle.onll_rows.specs.Sketch.{behaviour_of}
use Rattle.onll_stock.specs.Sales.{dealt_by, items_left}
use Rattle.onll_stock.specs.Shop.{NoneOversold}
use Rattle.onll_stock.specs.Stock.{stock, stock_at_first}
use Rattle.onll_keeps.proofs.Accounting.{follows_once_closed}
use Rattle.onll_stock.proofs.Selling.{IsEvenSince, over_lives}
use Rattle.onll_stock.proofs.shop.run_shop.Goals as goal

pub returns-clause-once : goal.returns-clause-once
returns-clause-once g c =
    IfOk-weaker c.serve.result _ _ (λ s served h. c.account_law.ensures items_left dealt_by _ _ _ _ _ _ s h) c.serve.ensures.served

pub returns-clause-ever : goal.returns-clause-ever
returns-clause-ever g c = IfOk-weaker c.serve.result _ _ (λ s served h.
    let items = c.args.items in
    let base = h.found.nodes in
    let deals = s.answers.items in
    follows_once_closed (behaviour_of stock) g.S.Dev.Pmem.means h.onll (IsEvenSince items base deals) (NoneOversold items base deals)
    (over_lives items (c.life_balance_law.ensures (stock_at_first items) items_left) base deals)
    h.worked.ended.runs h.worked.afters c.args.name.now h.opened _ s.kept h.worked.closed
    (c.account_law.ensures items_left dealt_by _ _ _ _ _ _ s h)) c.serve.ensures.served
