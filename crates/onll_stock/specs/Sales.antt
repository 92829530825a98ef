-- What customers took of a stock and put back, and what they say of that.
use Rattle.std.proofs.Common.{ℕ, Bool, true, false, List, ◌≡◌, ◌+◌, ◌-◌, ◌≤◌, if◌then◌else◌, nat_lt, Option, refl, arith}
use Rattle.std.proofs.lemmas.Bool.Decides.{nat_tests}
use Rattle.onll_model.specs.declared.call.Call.{Call}
use Rattle.onll_model.specs.declared.call.CallEnd.{CallEnd}
use Rattle.onll_pmem.specs.Pmem.{DeviceView}
use Rattle.onll_rows.specs.Sketch.{behaviour_of}
use Rattle.onll_balance.specs.Measure.{Measure, back_by, out_by, tally_of}
use Rattle.onll_keeps.specs.Accounts.{Account}
use Rattle.onll_threads.specs.Acts.{SeatView}
use Rattle.onll_threads.specs.Seats.{KeepsPromise}
use Rattle.onll_stock.specs.declared.customer.Customer.{Customer}
use Rattle.onll_stock.specs.declared.customer.Deal.{Deal}
use Rattle.onll_stock.specs.declared.customer.Ending.{Ending}
use Rattle.onll_stock.specs.declared.customer.Ending.TheVariants as why
use Rattle.onll_stock.specs.declared.stock.Stock.{Stock}
use Rattle.onll_stock.specs.declared.stock.StockOp.{StockOp}
use Rattle.onll_stock.specs.declared.stock.StockOp.TheVariants.{Sell, Restock}
use Rattle.onll_stock.specs.declared.stock.StockQuery.{StockQuery}
use Rattle.onll_stock.specs.declared.stock.StockReply.{StockReply}
use Rattle.onll_stock.specs.declared.stock.StockReply.TheVariants.{Sold, TooFew, Restocked, TooMany, Items}
use Rattle.onll_stock.specs.Stock.{most_items, next, reply, stock}

-- a customer ended well: it has as many as it needs, or none was left
abbrev pub is_good : Ending → Bool
is_good why.Content = true
is_good why.SoldOut = true
is_good ending = false

-- how many items an operation with this reply took out
abbrev pub taken : StockOp → StockReply → ℕ
taken (Sell n) Sold = n
taken op reply = 0

-- how many it put in
abbrev pub put_in : StockOp → StockReply → ℕ
put_in (Restock n) Restocked = n
put_in op reply = 0

-- how many it may put in
abbrev pub most_put_in : StockOp → ℕ
most_put_in (Restock n) = n
most_put_in (Sell n) = 0

pub puts_no_more : (op : StockOp) (reply : StockReply) → put_in op reply ≤ most_put_in op
puts_no_more (Sell n) reply = omega arith
puts_no_more (Restock n) Sold = omega arith
puts_no_more (Restock n) TooFew = omega arith
puts_no_more (Restock n) Restocked = omega arith
puts_no_more (Restock n) TooMany = omega arith
puts_no_more (Restock n) (Items left) = omega arith

pub none_from_nowhere : (s : Stock) (op : StockOp) → (next s op).left + taken op (reply s op) ≤ s.left + put_in op (reply s op)
none_from_nowhere s (Sell n) = by (nat_lt s.left n) refl
  where
    by : (q : Bool) → q ≡ nat_lt s.left n
        → (if q then s else record { left = s.left - n }).left + taken (Sell n) (if q then TooFew else Sold)
        ≤ s.left + put_in (Sell n) (if q then TooFew else Sold)
    by true e = omega arith
    by false e = let fits : n ≤ s.left = grind (arith, nat_tests) in omega (arith, fits)
none_from_nowhere s (Restock n) = by (nat_lt most_items (s.left + n))
  where
    by : (q : Bool) → (if q then s else record { left = s.left + n }).left + taken (Restock n) (if q then TooMany else Restocked)
        ≤ s.left + put_in (Restock n) (if q then TooMany else Restocked)
    by true = omega arith
    by false = omega arith

-- the items that are left: sales take of them, and restocking puts some in
abbrev pub items_left : Measure (behaviour_of stock)
items_left = record {
  left = λ s. s.left;
  out = taken;
  back = put_in;
  most = most_put_in;
  within = puts_no_more;
  step = none_from_nowhere;
}

-- What is said is so of calls that ended so: how many items they took out, and how many they put in, or may have put in where a fence
-- failed.
abbrev pub IsSaidOf : List (Call Stock StockOp StockQuery StockReply) → List (CallEnd Stock StockOp StockQuery StockReply) → Deal → Type 0
IsSaidOf calls ends deal =
    (tally_of (out_by taken) calls ends ≡ deal.bought) × (tally_of (back_by put_in most_put_in) calls ends ≡ deal.back)

-- what a customer says is so of all its calls
abbrev pub says_dealt : {R : Type 0} → Customer R → Customer R → List (Call Stock StockOp StockQuery StockReply)
    → List (CallEnd Stock StockOp StockQuery StockReply) → Deal → Type 0
says_dealt old new calls ends deal = IsSaidOf calls ends deal

-- what customers say of the items that are left
abbrev pub dealt_by : {R : Type 0} → Account items_left (says_dealt {R = R})
dealt_by = record {
  out = λ deal. deal.bought;
  back = λ deal. deal.back;
  outs = λ old new calls ends deal said. (let bought = said.0 in omega (arith, bought));
  backs = λ old new calls ends deal said. (let back = said.1 in omega (arith, back));
}

-- what is said so far is so of the calls that were made at a seat
abbrev pub HasDealt : {Device : Type 0} → (Device → DeviceView) → Option (SeatView Stock Device) → Deal → SeatView Stock Device → Type 0
HasDealt means first deal now = KeepsPromise (behaviour_of stock) means first IsSaidOf now deal
