use Rattle.std.proofs.Common.{ℕ, zero, suc, ◌≡◌, List, length, refl, ap}
use Rattle.onll_log.specs.Head.{heads_from}

-- There is a head for each log.

pub length-heads_from : (count object : ℕ) (init : List ℕ) (t n : ℕ) → length (heads_from count object init t n) ≡ n
length-heads_from count object init t zero = refl
length-heads_from count object init t (suc n) = ap suc (length-heads_from count object init (suc t) n)
