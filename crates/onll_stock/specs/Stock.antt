-- A stock is as many items as are left.
use Rattle.std.proofs.Common.{ℕ, List, [], ◌∷◌, ◌≡◌, ◌+◌, ◌-◌, ◌^◌, ◌++◌, ◌==◌, Option, Some, if◌then◌else◌, nat_lt, get_or, codes, decimal, refl}
use Rattle.onll_log.specs.declared.head.LogHead.{LogHead}
use Rattle.onll_open.specs.Heads.{heads_of}
use Rattle.onll_rows.specs.Sketch.{Coding, Sketch, row_words}
use Rattle.onll_stock.specs.declared.stock.Stock.{Stock}
use Rattle.onll_stock.specs.declared.stock.StockOp.{StockOp}
use Rattle.onll_stock.specs.declared.stock.StockOp.TheVariants.{Sell, Restock}
use Rattle.onll_stock.specs.declared.stock.StockQuery.{StockQuery}
use Rattle.onll_stock.specs.declared.stock.StockReply.{StockReply}
use Rattle.onll_stock.specs.declared.stock.StockReply.TheVariants.{Sold, TooFew, Restocked, TooMany, Items}

-- the greatest number of items
abbrev pub most_items : ℕ
most_items = 2 ^ 64 - 1

-- all items are sold, or none where fewer are left; all are put in, or none where there would be too many
abbrev pub reply : Stock → StockOp → StockReply
reply s (Sell n) = if nat_lt s.left n then TooFew else Sold
reply s (Restock n) = if nat_lt most_items (s.left + n) then TooMany else Restocked

abbrev pub next : Stock → StockOp → Stock
next s (Sell n) = if nat_lt s.left n then s else record { left = s.left - n }
next s (Restock n) = if nat_lt most_items (s.left + n) then s else record { left = s.left + n }

-- how many items an operation is of
abbrev pub items_of : StockOp → ℕ
items_of (Sell n) = n
items_of (Restock n) = n

abbrev pub words : StockOp → List ℕ
words (Sell n) = 1 ∷ n ∷ []
words (Restock n) = 2 ∷ n ∷ []

-- the operation of these words, where they are those of one
abbrev pub op_of : List ℕ → Option StockOp
op_of ws = if get_or ws 0 0 == 1 then Some (Sell (get_or ws 1 0)) else Some (Restock (get_or ws 1 0))

pub reads : (op : StockOp) → op_of (row_words (words op)) ≡ Some op
reads (Sell n) = refl
reads (Restock n) = refl

abbrev pub stock : Sketch Stock StockOp StockQuery StockReply
stock = let rows : Coding StockOp = record { words = words; op_of = op_of; reads = reads } in
    record { next = next; reply = reply; answer = λ s q. Items s.left; rows = rows; text = λ s. codes "stock " ++ decimal s.left }

-- so many items
abbrev pub stock_at_first : ℕ → Stock
stock_at_first items = record { left = items }

-- the heads of the logs of a shop of so many items and customers
abbrev pub shop_heads : ℕ → ℕ → List LogHead
shop_heads items customers = heads_of 4 (stock.text (stock_at_first items)) customers
