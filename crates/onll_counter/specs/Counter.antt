-- A counter is its count.
use Rattle.std.proofs.Common.{ℕ, List, [], ◌∷◌, ◌≡◌, ◌+◌, ◌-◌, ◌^◌, ◌++◌, Some, if◌then◌else◌, nat_lt, get_or, codes, decimal, refl}
use Rattle.onll_rows.specs.Sketch.{Coding, Sketch, row_words}
use Rattle.onll_counter.specs.declared.Count.{Count}
use Rattle.onll_counter.specs.declared.CounterOp.{CounterOp}
use Rattle.onll_counter.specs.declared.CounterOp.TheVariants.{Add}
use Rattle.onll_counter.specs.declared.CounterQuery.{CounterQuery}
use Rattle.onll_counter.specs.declared.CounterReply.{CounterReply}
use Rattle.onll_counter.specs.declared.CounterReply.TheVariants as gives

abbrev pub next : Count → CounterOp → Count
next s (Add n) = if nat_lt (2 ^ 64 - 1) (s.count + n) then s else record { count = s.count + n }

abbrev pub reply : Count → CounterOp → CounterReply
reply s (Add n) = if nat_lt (2 ^ 64 - 1) (s.count + n) then gives.TooMany else gives.Added

abbrev pub words : CounterOp → List ℕ
words (Add n) = 1 ∷ n ∷ []

pub reads : (op : CounterOp) → Some (Add (get_or (row_words (words op)) 1 0)) ≡ Some op
reads (Add n) = refl

abbrev pub counter : Sketch Count CounterOp CounterQuery CounterReply
counter = let rows : Coding CounterOp = record { words = words; op_of = λ ws. Some (Add (get_or ws 1 0)); reads = reads } in
    record { next = next; reply = reply; answer = λ s q. gives.Count s.count; rows = rows; text = λ s. codes "counter " ++ decimal s.count }
