use Rattle.std.proofs.Common.{◌≡◌, ℕ, ◌<◌, ◌⊎◌, inl, inr, ⊎_elim, sym, ap, arith}
use mathlib.Core.Logic.{dite}
use native.Mathlib.Decide.{ℕ_discrete}
use Rattle.onll_model.specs.RealTime.{Stand, NodeAt, ReadAt, StandsBefore, StandOrder}

-- The order of calls is strict and total.

stands_before_itself : (a : Stand) → StandsBefore a a → ⊥
stands_before_itself (NodeAt p) h = omega arith
stands_before_itself (ReadAt p e) h = ⊎_elim (λ (l : p < p). omega arith) (λ (k : (p ≡ p) × (e < e)). let l = k.1 in omega arith) h

stands_before_more : (a c e : Stand) → StandsBefore a c → StandsBefore c e → StandsBefore a e
stands_before_more (NodeAt p) (NodeAt q) (NodeAt r) h k = omega arith
stands_before_more (NodeAt p) (NodeAt q) (ReadAt r m) h k = omega arith
stands_before_more (NodeAt p) (ReadAt q n) (NodeAt r) h k = omega arith
stands_before_more (NodeAt p) (ReadAt q n) (ReadAt r m) h k = ⊎_elim (λ (l : q < r). omega arith) (λ (l : (q ≡ r) × (n < m)). let e = l.0 in omega arith) k
stands_before_more (ReadAt p d) (NodeAt q) (NodeAt r) h k = omega arith
stands_before_more (ReadAt p d) (NodeAt q) (ReadAt r m) h k = inl (omega arith)
stands_before_more (ReadAt p d) (ReadAt q n) (NodeAt r) h k = ⊎_elim (λ (l : p < q). omega arith) (λ (l : (p ≡ q) × (d < n)). let e = l.0 in omega arith) h
stands_before_more (ReadAt p d) (ReadAt q n) (ReadAt r m) h k = ⊎_elim
    (λ (l : p < q). ⊎_elim (λ (o : q < r). inl (omega arith)) (λ (o : (q ≡ r) × (n < m)). let e = o.0 in inl (omega arith)) k)
    (λ (l : (p ≡ q) × (d < n)). let e = l.0 in let less = l.1 in ⊎_elim (λ (o : q < r). inl (omega arith)) (λ (o : (q ≡ r) × (n < m)). let e' = o.0 in let more = o.1 in inr (omega arith, omega arith)) k)
    h

numbers_total : (a b : ℕ) → (a < b) ⊎ ((a ≡ b) ⊎ (b < a))
numbers_total a b = dite (ℕ_discrete a b) (λ is. inr (inl is)) (λ not. dite (native.Mathlib.Decide.dec_le a b) (λ le. inl (omega arith)) (λ gt. inr (inr (omega arith))))

stands_total : (a c : Stand) → StandsBefore a c ⊎ ((a ≡ c) ⊎ StandsBefore c a)
stands_total (NodeAt p) (NodeAt q) = ⊎_elim (λ (l : p < q). inl l) (λ (h : (p ≡ q) ⊎ (q < p)). inr (⊎_elim (λ (e : p ≡ q). inl (ap NodeAt e)) (λ (l : q < p). inr l) h)) (numbers_total p q)
stands_total (NodeAt p) (ReadAt q e) = dite (native.Mathlib.Decide.dec_le p q) (λ le. inl le) (λ gt. inr (inr (omega arith)))
stands_total (ReadAt p e) (NodeAt q) = dite (native.Mathlib.Decide.dec_le q p) (λ le. inr (inr le)) (λ gt. inl (omega arith))
stands_total (ReadAt p c) (ReadAt q d) = ⊎_elim (λ (l : p < q). inl (inl l))
    (λ (h : (p ≡ q) ⊎ (q < p)). ⊎_elim
    (λ (e : p ≡ q). ⊎_elim (λ (l : c < d). inl (inr (e, l)))
    (λ (k : (c ≡ d) ⊎ (d < c)). inr (⊎_elim (λ (f : c ≡ d). inl (λ i. ReadAt (e i) (f i))) (λ (l : d < c). inr (inr (sym e, l))) k)) (numbers_total c d))
    (λ (l : q < p). inr (inr (inl l))) h) (numbers_total p q)

pub stand_order : StandOrder
stand_order = record { irreflexive = stands_before_itself; transitive = stands_before_more; total = stands_total }
