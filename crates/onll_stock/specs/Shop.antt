-- That no item is sold twice, in what customers did, in whatever a crash leaves of it, and over all generations.
use Rattle.std.specs.Prelude.{ℕ, List, [], ◌∷◌, ◌≡◌, ◌+◌, ◌≤◌}
use Rattle.std.specs.List.{AllByRecursion}
use Rattle.onll_log.specs.declared.head.LogHead.{LogHead}
use Rattle.onll_model.specs.declared.node.Node.{Node}
use Rattle.onll_model.specs.Trace.{state_after}
use Rattle.onll_outside.specs.Views.{StoreView}
use Rattle.onll_pmem.specs.Pmem.{DeviceView}
use Rattle.onll_rows.specs.Sketch.{behaviour_of}
use Rattle.onll_balance.specs.Measure.{back_by, out_by}
use Rattle.onll_keeps.specs.Accounts.{IsSoOnceClosed, ServesEvenly}
use Rattle.onll_keeps.specs.Lifetimes.{IsLegalGeneration, tally_in_life}
use Rattle.onll_keeps.specs.Tallies.{sum_of}
use Rattle.onll_serve.specs.declared.service.Served.{Served}
use Rattle.onll_serve.specs.Lives.{IsLife, ServedGeneration}
use Rattle.onll_serve.specs.Serving.{HasServed}
use Rattle.onll_stock.specs.declared.customer.Customer.{Customer}
use Rattle.onll_stock.specs.declared.customer.Deal.{Deal}
use Rattle.onll_stock.specs.declared.stock.Stock.{Stock}
use Rattle.onll_stock.specs.declared.stock.StockOp.{StockOp}
use Rattle.onll_stock.specs.declared.stock.StockQuery.{StockQuery}
use Rattle.onll_stock.specs.declared.stock.StockReply.{StockReply}
use Rattle.onll_stock.specs.Sales.{dealt_by, items_left, most_put_in, put_in, says_dealt, taken}
use Rattle.onll_stock.specs.Stock.{stock, stock_at_first}

-- how many items these nodes leave of so many at first
abbrev pub left_after : ℕ → List Node → ℕ
left_after items nodes = (state_after (behaviour_of stock) (stock_at_first items) nodes).left

-- how many customers say that they bought, and how many that they brought back
abbrev pub all_bought : List Deal → ℕ
all_bought deals = sum_of (λ (deal : Deal). deal.bought) deals

abbrev pub all_back : List Deal → ℕ
all_back deals = sum_of (λ (deal : Deal). deal.back) deals

-- Generations of customers, killed or ended, over a stock of so many items at first: each went on from what the one before left, and the
-- last left these nodes.
abbrev pub IsShopLife : ℕ → List (ServedGeneration Stock StockOp StockQuery StockReply) → List Node → Type 0
IsShopLife items [] nodes = nodes ≡ []
IsShopLife items (g ∷ more) nodes = (g.base ≡ []) × IsLife (g ∷ more) nodes
    × AllByRecursion (IsLegalGeneration (behaviour_of stock) (stock_at_first items)) (g ∷ more)

-- Whatever generations there were before: what they took, what these customers say that they bought, and what is left, are no more than
-- the items at first, what they put in, and what these say that they brought back.
abbrev pub NoneOversold : ℕ → List Node → List Deal → List Node → Type 0
NoneOversold items base deals nodes =
    (before : List (ServedGeneration Stock StockOp StockQuery StockReply)) → IsShopLife items before base
    → tally_in_life (out_by taken) before + all_bought deals + left_after items nodes
    ≤ items + tally_in_life (back_by put_in most_put_in) before + all_back deals

module _ {R Device : Type 0} (means : Device → DeviceView) (store : StoreView) (logs : List ℕ) (heads : List LogHead) (items : ℕ)
    (customers : List (Customer R)) (new : StoreView) (served : Served Stock Device (Customer R) Deal StockOp StockQuery StockReply) where
  -- In whatever way customers were served: what they say that they bought, and what is left, are no more than what the files left and what
  -- they say that they brought back; also of whatever a crash leaves, with all that was said. So no item is sold twice.
  abbrev pub ServesOnce : Type 0
  ServesOnce = ServesEvenly items_left says_dealt means dealt_by store logs heads (stock_at_first items) customers new served

  -- and so over all generations that there were before
  abbrev pub NeverOversells : Type 0
  NeverOversells =
      (h : HasServed (behaviour_of stock) means says_dealt store logs heads (stock_at_first items) customers new served)
      → IsSoOnceClosed (behaviour_of stock) means h.onll (NoneOversold items h.found.nodes served.answers.items)
      h.worked.ended.runs h.worked.afters logs h.opened new served.kept h.worked.closed
