-- Which node stands at a place of a log.
use Rattle.std.proofs.Common.{◌≡◌, ◌≢◌, ℕ, zero, suc, ◌+◌, ◌<◌, ◌≤◌, Bool, List, [], ◌∷◌, length, get_or, refl, ap, ◌∙◌, arith, Option, Some, None, eq-eqb, ne_eqb, cond}
use Rattle.std.specs.Option.{option_or}
use Rattle.onll_model.specs.declared.node.Node.{Node}
use Rattle.onll_model.specs.Segment.{Segment, Rises}
use Rattle.onll_log.specs.declared.decoded.Entry.{Entry}
use Rattle.onll_log.specs.Decoded.{segment_in, segments_in}
use Rattle.onll_merge.specs.Merge.{node_among, node_in_segment, node_in_log}

-- ---- among nodes that follow each other
pub node_among-skip : (last : ℕ) (x : Node) (xs : List Node) (p : ℕ) → p + length xs ≢ last → node_among last (x ∷ xs) p ≡ node_among last xs p
node_among-skip last x xs p n = ap (λ (b : Bool). cond {A = Option Node} b (Some x) (node_among last xs p)) (ne_eqb (p + length xs) last n)

pub node_among-first : (last : ℕ) (x : Node) (xs : List Node) (p : ℕ) → p + length xs ≡ last → node_among last (x ∷ xs) p ≡ Some x
node_among-first last x xs p e = ap (λ (b : Bool). cond {A = Option Node} b (Some x) (node_among last xs p)) (eq-eqb (p + length xs) last e)

pub node_among-above : (last : ℕ) (xs : List Node) (p : ℕ) → last < p → node_among last xs p ≡ None
node_among-above last [] p l = refl
node_among-above last (x ∷ xs) p l = node_among-skip last x xs p (λ e. omega arith) ∙ node_among-above last xs p l

pub node_among-below : (last : ℕ) (xs : List Node) (p : ℕ) → p + length xs ≤ last → node_among last xs p ≡ None
node_among-below last [] p l = refl
node_among-below last (x ∷ xs) p l = node_among-skip last x xs p (λ e. omega arith) ∙ node_among-below last xs p (omega arith)

pub node_among-at : (last : ℕ) (xs : List Node) (p k : ℕ) (d : Node) → k < length xs → p + length xs ≡ last + k + 1 → node_among last xs p ≡ Some (get_or xs k d)
node_among-at last [] p k d l e = absurd (omega arith)
node_among-at last (x ∷ xs) p zero d l e = node_among-first last x xs p (omega arith)
node_among-at last (x ∷ xs) p (suc k) d l e = node_among-skip last x xs p (λ h. omega arith) ∙ node_among-at last xs p k d (omega arith) (omega arith)

-- ---- in a log
option_or-none : {A : Type 0} (o : Option A) → option_or o None ≡ o
option_or-none None = refl
option_or-none (Some x) = refl

-- segments that rise above `last` hold no place up to it
pub node_in_log-low : (last : ℕ) (ss : List Segment) (p : ℕ) → Rises last ss → p ≤ last → node_in_log ss p ≡ None
node_in_log-low last [] p r l = refl
node_in_log-low last (s ∷ ss) p r l = let h = r.0 in ap (λ (o : Option Node). option_or o (node_in_log ss p)) (node_among-below s.place s.nodes p (omega arith)) ∙ node_in_log-low s.place ss p r.1 (omega arith)

-- entries that end below a place don't hold it
pub node_in_log-high : (es : List Entry) (p : ℕ) → ((k : ℕ) (d : Entry) → k < length es → (get_or es k d).place < p) → node_in_log (segments_in es) p ≡ None
node_in_log-high [] p h = refl
node_in_log-high (e ∷ es) p h = ap (λ (o : Option Node). option_or o (node_in_log (segments_in es) p)) (node_among-above e.place e.nodes p (h 0 e (omega arith))) ∙ node_in_log-high es p (λ k d l. h (suc k) d (omega arith))

-- the first entry that ends at a place or above is the one that may hold it
pub node_in_log-at : (last : ℕ) (es : List Entry) (p at : ℕ) (d : Entry) → Rises last (segments_in es) → at < length es → ((k : ℕ) (d : Entry) → k < at → (get_or es k d).place < p) → p ≤ (get_or es at d).place
    → node_in_log (segments_in es) p ≡ node_in_segment (segment_in (get_or es at d)) p
node_in_log-at last [] p at d r l h f = absurd (omega arith)
node_in_log-at last (e ∷ es) p zero d r l h f = ap (λ (o : Option Node). option_or (node_among e.place e.nodes p) o) (node_in_log-low e.place (segments_in es) p r.1 f) ∙ option_or-none (node_among e.place e.nodes p)
node_in_log-at last (e ∷ es) p (suc at) d r l h f = ap (λ (o : Option Node). option_or o (node_in_log (segments_in es) p)) (node_among-above e.place e.nodes p (h 0 e (omega arith))) ∙ node_in_log-at e.place es p at d r.1 (omega arith) (λ k q m. h (suc k) q (omega arith)) f

-- ---- entries that rise
pub Rises-above : (last : ℕ) (es : List Entry) (k : ℕ) (d : Entry) → Rises last (segments_in es) → k < length es → last + length (get_or es k d).nodes ≤ (get_or es k d).place
Rises-above last [] k d r l = absurd (omega arith)
Rises-above last (e ∷ es) zero d r l = r.0
Rises-above last (e ∷ es) (suc k) d r l = let h = Rises-above e.place es k d r.1 (omega arith) in let g = r.0 in omega arith

-- the first entry that ends above `place` holds no place below its own
pub node_in_log-between : (es : List Entry) (place at q : ℕ) (d : Entry) → Rises 0 (segments_in es) → at < length es → ((k : ℕ) (d : Entry) → k < at → (get_or es k d).place < place + 1)
    → place < q → q + length (get_or es at d).nodes ≤ (get_or es at d).place → node_in_log (segments_in es) q ≡ None
node_in_log-between es place at q d r l h m n =
    node_in_log-at 0 es q at d r l (λ k z i. let g = h k z i in omega arith) (omega arith) ∙ node_among-below (get_or es at d).place (get_or es at d).nodes q n
