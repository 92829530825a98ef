-- How long a numbered trace of few threads is.
use Rattle.std.proofs.Common.{ℕ, zero, suc, ◌≡◌, ◌+◌, ◌*◌, ◌<◌, ◌≤◌, Bool, true, false, List, [], ◌∷◌, ◌++◌, length, refl, sym, ap, subst, ◌∙◌, arith, count_by, cond, ◌==◌, eq-eqb, ne_eqb, append_assoc, append-nil}
use Rattle.std.proofs.lemmas.Bool.{le-leb, lt-leb}
use Rattle.std.proofs.lemmas.List.Sums.{sum_by-cons}
use Rattle.std.specs.Prelude.{nat_le}
use Rattle.std.specs.List.{AllByRecursion}
use mathlib.Core.Logic.{dite}
use native.Mathlib.Decide.{ℕ_discrete}
use Rattle.onll_model.specs.declared.node.Node.{Node}
use Rattle.onll_model.specs.Trace.{is_of_thread, NumberedAbove, IsNumbered}
use Rattle.onll_model.proofs.Traces.{count_own, count_other}

pub count_cons : (f : Node → Bool) (x : Node) (xs : List Node) → count_by f (x ∷ xs) ≡ cond {A = ℕ} (f x) 1 0 + count_by f xs
count_cons f x xs = sum_by-cons (λ (y : Node). cond {A = ℕ} (f y) 1 0) x xs

-- how many nodes are of the threads below n
below_count : ℕ → List Node → ℕ
below_count n [] = 0
below_count n (x ∷ xs) = cond {A = ℕ} (nat_le (suc x.thread) n) 1 0 + below_count n xs

below_next : (n : ℕ) (xs : List Node) → below_count (suc n) xs ≡ below_count n xs + count_by (is_of_thread n) xs
unfolding below_count
below_next n [] = omega arith
below_next n (x ∷ xs) = let h = below_next n xs in let e = here x.thread n in let m = count_cons (is_of_thread n) x xs in omega arith
  where
    here : (a n : ℕ) → cond {A = ℕ} (nat_le (suc a) (suc n)) 1 0 ≡ cond {A = ℕ} (nat_le (suc a) n) 1 0 + cond {A = ℕ} (a == n) 1 0
    here a n = dite (ℕ_discrete a n)
        (λ is. let x = yes _ (le-leb (suc a) (suc n) (omega arith)) in let y = not _ (lt-leb (suc a) n (omega arith)) in let z = yes _ (eq-eqb a n is) in omega arith)
        (λ other. let z = not _ (ne_eqb a n other) in dite (native.Mathlib.Decide.dec_le (suc a) n)
        (λ le. let x = yes _ (le-leb (suc a) (suc n) (omega arith)) in let y = yes _ (le-leb (suc a) n le) in omega arith)
        (λ gt. let x = not _ (lt-leb (suc a) (suc n) (omega arith)) in let y = not _ (lt-leb (suc a) n (omega arith)) in omega arith))
      where
        yes : (b : Bool) → b ≡ true → cond {A = ℕ} b 1 0 ≡ 1
        yes b e = ap (λ (c : Bool). cond {A = ℕ} c 1 0) e

        not : (b : Bool) → b ≡ false → cond {A = ℕ} b 1 0 ≡ 0
        not b e = ap (λ (c : Bool). cond {A = ℕ} c 1 0) e

below_none : (xs : List Node) → below_count 0 xs ≡ 0
unfolding below_count
below_none [] = refl
below_none (x ∷ xs) = let h = below_none xs in let e : cond {A = ℕ} (nat_le (suc x.thread) 0) 1 0 ≡ 0 = ap (λ (c : Bool). cond {A = ℕ} c 1 0) (lt-leb (suc x.thread) 0 (omega arith)) in omega arith

below_all : (n : ℕ) (xs : List Node) → AllByRecursion (λ (x : Node). x.thread < n) xs → below_count n xs ≡ length xs
unfolding below_count
below_all n [] h = refl
below_all n (x ∷ xs) h = let a = below_all n xs h.1 in let b = h.0 in let e : cond {A = ℕ} (nat_le (suc x.thread) n) 1 0 ≡ 1 = ap (λ (c : Bool). cond {A = ℕ} c 1 0) (le-leb (suc x.thread) n (omega arith)) in omega arith

below_most : (k n : ℕ) (xs : List Node) → ((t : ℕ) → t < n → count_by (is_of_thread t) xs ≤ k) → below_count n xs ≤ k * n
below_most k zero xs h = let e = below_none xs in omega arith
below_most k (suc n) xs h = let a = below_most k n xs (λ t l. h t (omega arith)) in let b = h n (omega arith) in let c = below_next n xs in let e : k * suc n ≡ k * n + k = grind arith in omega arith

-- no more nodes than each thread's together
pub few_in_all : (k n : ℕ) (xs : List Node) → ((t : ℕ) → t < n → count_by (is_of_thread t) xs ≤ k) → AllByRecursion (λ (x : Node). x.thread < n) xs → length xs ≤ k * n
few_in_all k n xs h low = let a = below_most k n xs h in let b = below_all n xs low in omega arith

-- a thread has no more nodes than the greatest number of any
few_above : (k t : ℕ) (below xs : List Node) → NumberedAbove below xs → AllByRecursion (λ (x : Node). x.number ≤ k) xs
    → count_by (is_of_thread t) below ≤ k → count_by (is_of_thread t) (below ++ xs) ≤ k
few_above k t below [] n h l = subst (λ (ns : List Node). count_by (is_of_thread t) ns ≤ k) (sym (append-nil below)) l
few_above k t below (x ∷ xs) n h l =
    subst (λ (ns : List Node). count_by (is_of_thread t) ns ≤ k) (append_assoc below (x ∷ []) xs)
    (few_above k t (below ++ x ∷ []) xs n.1 h.1 (dite (ℕ_discrete x.thread t)
    (λ own. let c = count_own t below x own in let e : x.number ≡ count_by (is_of_thread t) below + 1 = n.0 ∙ ap (λ (u : ℕ). count_by (is_of_thread u) below + 1) own in let m = h.0 in omega arith)
    (λ other. let c = count_other t below x other in omega arith)))

pub few_of_thread : (k t : ℕ) (trace : List Node) → IsNumbered trace → AllByRecursion (λ (x : Node). x.number ≤ k) trace → count_by (is_of_thread t) trace ≤ k
few_of_thread k t trace n h = few_above k t [] trace n h (omega arith)

pub short_trace : (k count : ℕ) (trace : List Node) → IsNumbered trace → AllByRecursion (λ (x : Node). x.number ≤ k) trace
    → AllByRecursion (λ (x : Node). x.thread < count) trace → length trace ≤ k * count
short_trace k count trace n numbers threads = few_in_all k count trace (λ t l. few_of_thread k t trace n numbers) threads
