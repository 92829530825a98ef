-- What is so of one service is so over all generations before it.
use Rattle.std.proofs.Common.{ℕ, List, [], ◌∷◌, ◌≡◌, ◌+◌, ◌≤◌, ap, arith}
use Rattle.onll_model.specs.declared.node.Node.{Node}
use Rattle.onll_rows.specs.Sketch.{behaviour_of}
use Rattle.onll_keeps.specs.Lifetimes.{LifeBalanceLaw}
use Rattle.onll_stock.specs.declared.customer.Deal.{Deal}
use Rattle.onll_stock.specs.Sales.{items_left}
use Rattle.onll_stock.specs.Shop.{NoneOversold, all_back, all_bought, left_after}
use Rattle.onll_stock.specs.Stock.{stock, stock_at_first}

-- what customers say that they bought, and what these nodes leave, are no more than what the base left and what they say was brought back
abbrev pub IsEvenSince : ℕ → List Node → List Deal → List Node → Type 0
IsEvenSince items base deals nodes = all_bought deals + left_after items nodes ≤ left_after items base + all_back deals

-- so it is over all generations
pub over_lives : (items : ℕ) (life : LifeBalanceLaw (behaviour_of stock) (stock_at_first items) items_left) (base : List Node)
    (deals : List Deal) (nodes : List Node) → IsEvenSince items base deals nodes → NoneOversold items base deals nodes
over_lives items life base deals nodes even [] l =
    let first : left_after items base ≡ items = ap (left_after items) l in omega (arith, even, first)
over_lives items life base deals nodes even (g ∷ more) l =
    let first : left_after items g.base ≡ items = ap (left_after items) l.0 in
    let here = life g more base l.1 l.2 in
    omega (arith, even, here, first)
