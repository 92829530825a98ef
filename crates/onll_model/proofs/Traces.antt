use Rattle.std.proofs.Common.{◌≡◌, ◌≢◌, ℕ, zero, suc, ◌+◌, ◌-◌, ◌<◌, ◌≤◌, ◌⊎◌, inl, inr, List, [], ◌∷◌, ◌++◌, length, take, Some, refl, sym, ap, ◌∙◌, subst, ⊎_elim, arith, append_assoc, append-nil}
use Rattle.std.proofs.Common.{map, eqb, Bool, true, false, true≢false, ne_eqb, eqb-true, cond, ◌==◌, eq-eqb, count_by}
use Rattle.std.proofs.lemmas.Bool.{or_cases}
use Rattle.std.proofs.lemmas.List.{length-map}
use Rattle.std.proofs.lemmas.List.Sums.{sum_by-append}
use Rattle.std.specs.List.{IsDistinct, AllByRecursion, list_any, slice_get}
use Rattle.std.proofs.lemmas.Map.Steps.{length-le_from_distinct_below}
use Rattle.onll_model.specs.declared.node.Node.{Node}
use Rattle.onll_model.specs.Trace.{node_at, is_of_thread, NumberedAbove, IsNumbered}
use Rattle.onll_model.proofs.Lists.{same_some, some_not_none, inside, present, at_snoc, at_before, at_end}

-- On traces read by place.

pub node_place : (trace : List Node) (p : ℕ) (x : Node) → node_at trace p ≡ Some x → (1 ≤ p) × (p ≤ length trace)
node_place trace zero x e = some_not_none x (sym e)
node_place trace (suc p) x e = let h = inside trace p x e in (omega arith, omega arith)

pub node_present : (trace : List Node) (p : ℕ) → 1 ≤ p → p ≤ length trace → (x : Node) × (node_at trace p ≡ Some x)
node_present trace zero a b = absurd (omega arith)
node_present trace (suc p) a b = present trace p (omega arith)

pub node_snoc : (trace : List Node) (x y : Node) (p : ℕ) → node_at (trace ++ x ∷ []) p ≡ Some y → (node_at trace p ≡ Some y) ⊎ ((p ≡ suc (length trace)) × (x ≡ y))
node_snoc trace x y zero e = some_not_none y (sym e)
node_snoc trace x y (suc p) e = ⊎_elim (λ (h : slice_get trace p ≡ Some y). inl h) (λ (h : (p ≡ length trace) × (x ≡ y)). inr (ap suc h.0, h.1)) (at_snoc trace x y p e)

pub node_before : (trace more : List Node) (p : ℕ) (y : Node) → node_at trace p ≡ Some y → node_at (trace ++ more) p ≡ Some y
node_before trace more zero y e = e
node_before trace more (suc p) y e = at_before trace more p (inside trace p y e) ∙ e

pub node_end : (trace : List Node) (x : Node) → node_at (trace ++ x ∷ []) (suc (length trace)) ≡ Some x
node_end trace x = at_end trace x

-- a thread's count with one node more

pub count_append : (t : ℕ) (xs ys : List Node) → count_by (is_of_thread t) (xs ++ ys) ≡ count_by (is_of_thread t) xs + count_by (is_of_thread t) ys
count_append t xs ys = sum_by-append (λ (x : Node). cond (is_of_thread t x) 1 0) xs ys

pub count_own : (t : ℕ) (xs : List Node) (x : Node) → x.thread ≡ t → count_by (is_of_thread t) (xs ++ x ∷ []) ≡ suc (count_by (is_of_thread t) xs)
count_own t xs x e = let h = count_append t xs (x ∷ []) in let one : cond {A = ℕ} (x.thread == t) 1 0 ≡ 1 = ap (λ (c : Bool). cond {A = ℕ} c 1 0) (eq-eqb x.thread t e) in omega arith

pub count_other : (t : ℕ) (xs : List Node) (x : Node) → x.thread ≢ t → count_by (is_of_thread t) (xs ++ x ∷ []) ≡ count_by (is_of_thread t) xs
count_other t xs x e = let h = count_append t xs (x ∷ []) in let one : cond {A = ℕ} (x.thread == t) 1 0 ≡ 0 = ap (λ (c : Bool). cond {A = ℕ} c 1 0) (ne_eqb x.thread t e) in omega arith

-- a trace stays numbered with its thread's next node at its end

numbered_above : (below xs : List Node) (x : Node) → NumberedAbove below xs → x.number ≡ count_by (is_of_thread x.thread) (below ++ xs) + 1 → NumberedAbove below (xs ++ x ∷ [])
numbered_above below [] x h e = (e ∙ ap (λ (l : List Node). count_by (is_of_thread x.thread) l + 1) (append-nil below), tt)
numbered_above below (y ∷ xs) x h e = (h.0, numbered_above (below ++ y ∷ []) xs x h.1 (e ∙ ap (λ (l : List Node). count_by (is_of_thread x.thread) l + 1) (sym (append_assoc below (y ∷ []) xs))))

pub numbered_longer : (trace : List Node) (x : Node) → IsNumbered trace → x.number ≡ count_by (is_of_thread x.thread) trace + 1 → IsNumbered (trace ++ x ∷ [])
numbered_longer trace x h e = numbered_above [] trace x h e

-- the number of the node at a place
numbered_at : (below xs : List Node) → NumberedAbove below xs → (i : ℕ) (x : Node) → slice_get xs i ≡ Some x → x.number ≡ count_by (is_of_thread x.thread) (below ++ take i xs) + 1
numbered_at below [] h i x e = some_not_none x (sym e)
numbered_at below (y ∷ xs) h zero x e = subst (λ (z : Node). z.number ≡ count_by (is_of_thread z.thread) (below ++ []) + 1) (same_some y x e) (h.0 ∙ ap (λ (l : List Node). count_by (is_of_thread y.thread) l + 1) (sym (append-nil below)))
numbered_at below (y ∷ xs) h (suc i) x e = numbered_at (below ++ y ∷ []) xs h.1 i x e ∙ ap (λ (l : List Node). count_by (is_of_thread x.thread) l + 1) (append_assoc below (y ∷ []) (take i xs))

pub number_at_place : (trace : List Node) → IsNumbered trace → (p : ℕ) (x : Node) → node_at trace p ≡ Some x → x.number ≡ count_by (is_of_thread x.thread) (take (p - 1) trace) + 1
number_at_place trace h zero x e = some_not_none x (sym e)
number_at_place trace h (suc p) x e = let k : p ≡ suc p - 1 = omega arith in subst (λ (i : ℕ). x.number ≡ count_by (is_of_thread x.thread) (take i trace) + 1) k (numbered_at [] trace h p x e)

numbered_above_from : (below xs : List Node) → ((i : ℕ) (x : Node) → slice_get xs i ≡ Some x → x.number ≡ count_by (is_of_thread x.thread) (below ++ take i xs) + 1) → NumberedAbove below xs
numbered_above_from below [] h = tt
numbered_above_from below (y ∷ xs) h = (
  h 0 y refl ∙ ap (λ (l : List Node). count_by (is_of_thread y.thread) l + 1) (append-nil below),
  numbered_above_from (below ++ y ∷ []) xs (λ i x e. h (suc i) x e ∙ ap (λ (l : List Node). count_by (is_of_thread x.thread) l + 1) (sym (append_assoc below (y ∷ []) (take i xs)))),
)

-- nodes of different threads are no more than the threads

abbrev Differ : List Node → Type 0
Differ xs = (i j : ℕ) (x y : Node) → i < j → slice_get xs i ≡ Some x → slice_get xs j ≡ Some y → x.thread ≢ y.thread

abbrev thread_of_node : Node → ℕ
thread_of_node x = x.thread

all_other : (x : Node) (xs : List Node) → ((j : ℕ) (y : Node) → slice_get xs j ≡ Some y → x.thread ≢ y.thread) → AllByRecursion (λ y. eqb x.thread y ≡ false) (map thread_of_node xs)
all_other x [] h = tt
all_other x (y ∷ xs) h = (ne_eqb x.thread y.thread (h 0 y refl), all_other x xs (λ j z e. h (suc j) z e))

distinct : (xs : List Node) → Differ xs → IsDistinct eqb (map thread_of_node xs)
unfolding IsDistinct
distinct [] h = tt
distinct (x ∷ xs) h = (all_other x xs (λ j y e. h 0 (suc j) x y (omega arith) refl e), distinct xs (λ i j y z l a b. h (suc i) (suc j) y z (omega arith) a b))

among : (q : ℕ) (xs : List Node) → list_any (eqb q) (map thread_of_node xs) ≡ true → (i : ℕ) × (x : Node) × (slice_get xs i ≡ Some x) × (q ≡ x.thread)
among q [] h = absurd (true≢false (sym h))
among q (x ∷ xs) h = ⊎_elim (λ (a : eqb q x.thread ≡ true). (0, x, refl, eqb-true q x.thread a)) (λ (b : list_any (eqb q) (map thread_of_node xs) ≡ true). let r = among q xs b in (suc r.0, r.1, r.2, r.3)) (or_cases (eqb q x.thread) (list_any (eqb q) (map thread_of_node xs)) h)

pub few_nodes : (count : ℕ) (xs : List Node) → Differ xs → ((i : ℕ) (x : Node) → slice_get xs i ≡ Some x → x.thread < count) → length xs ≤ count
few_nodes count xs apart low = subst (λ (n : ℕ). n ≤ count) (length-map xs thread_of_node) (length-le_from_distinct_below (map thread_of_node xs) count (distinct xs apart) (λ q h. let r = among q xs h in subst (λ (z : ℕ). z < count) (sym r.3) (low r.0 r.1 r.2)))
