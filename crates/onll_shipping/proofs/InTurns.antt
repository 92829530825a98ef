-- The entries of logs in turns: of each log all of them, in its order.

use Rattle.std.proofs.Common.{ℕ, zero, suc, ◌+◌, ◌<◌, ◌≤◌, ◌≡◌, Bool, List, [], ◌∷◌, ◌++◌, length, take, drop, Option, Some, None, refl, sym, ap, ◌∙◌, arith, append-nil, cond, ne_eqb}
use Rattle.std.specs.List.{AllByRecursion, slice_get}
use Rattle.std.proofs.lemmas.List.{take_all}
use Rattle.onll_model.specs.Segment.{Segment}
use Rattle.onll_model.proofs.Lists.{all_append}
use Rattle.onll_standby.specs.Held.{HeldEntry, log_held}
use Rattle.onll_standby.specs.Shipped.{IsOfThreads}
use Rattle.onll_standby.proofs.Entries.{log_held-append, log_held-own}
use Rattle.onll_shipping.specs.ShipJob.{entry_then, turn_from, turns_from, most_entries, in_turns}

-- ---- one log in one turn
abbrev pub if_there : Option Segment → List Segment
if_there None = []
if_there (Some s) = s ∷ []

own_entry : (t : ℕ) (o : Option Segment) (rest : List HeldEntry) → log_held t (entry_then t o rest) ≡ if_there o ++ log_held t rest
own_entry t None rest = refl
own_entry t (Some s) rest = log_held-own (record { thread = t; segment = s }) rest

other_entry : (t u : ℕ) (o : Option Segment) (rest : List HeldEntry) → (t ≡ u → ⊥) → log_held u (entry_then t o rest) ≡ log_held u rest
other_entry t u None rest n = refl
other_entry t u (Some s) rest n = ap (λ (b : Bool). cond {A = List Segment} b (s ∷ []) [] ++ log_held u rest) (ne_eqb t u n)

none_below : (k t u : ℕ) (logs : List (List Segment)) → u < t → log_held u (turn_from k t logs) ≡ []
none_below k t u [] low = refl
none_below k t u (ss ∷ logs) low = other_entry t u (slice_get ss k) (turn_from k (t + 1) logs) (λ e. omega (arith, e, low)) ∙ none_below k (t + 1) u logs (omega (arith, low))

pub held_turn : (k t i : ℕ) (logs : List (List Segment)) (ss : List Segment) → slice_get logs i ≡ Some ss → log_held (t + i) (turn_from k t logs) ≡ if_there (slice_get ss k)
held_turn k t i [] ss at = absurd (cc)
held_turn k t zero (x ∷ logs) ss at =
    let is : x ≡ ss = (cc) in let z : t + 0 ≡ t = omega arith in
    ap (λ (u : ℕ). log_held u (turn_from k t (x ∷ logs))) z
    ∙ (own_entry t (slice_get x k) (turn_from k (t + 1) logs)
    ∙ (ap (λ (l : List Segment). if_there (slice_get x k) ++ l) (none_below k (t + 1) t logs (omega arith)) ∙ (append-nil (if_there (slice_get x k)) ∙ ap (λ (l : List Segment). if_there (slice_get l k)) is)))
held_turn k t (suc i) (x ∷ logs) ss at =
    let z : t + suc i ≡ t + 1 + i = omega arith in
    other_entry t (t + suc i) (slice_get x k) (turn_from k (t + 1) logs) (λ e. omega (arith, e))
    ∙ (ap (λ (u : ℕ). log_held u (turn_from k (t + 1) logs)) z ∙ held_turn k (t + 1) i logs ss at)

-- ---- turns
pub drop_none : (n : ℕ) → drop {A = Segment} n [] ≡ []
drop_none zero = refl
drop_none (suc n) = refl

pub take_none : (n : ℕ) → take {A = Segment} n [] ≡ []
take_none zero = refl
take_none (suc n) = refl

pub one_up : (k : ℕ) → suc k + 1 ≡ suc (k + 1)
one_up k = omega arith

next_cut : (n k : ℕ) (ss : List Segment) → if_there (slice_get ss k) ++ take n (drop (k + 1) ss) ≡ take (suc n) (drop k ss)
next_cut n zero [] = take_none n
next_cut n (suc k) [] = ap (take n) (drop_none (suc k + 1)) ∙ take_none n
next_cut n zero (s ∷ ss) = refl
next_cut n (suc k) (s ∷ ss) = ap (λ (m : ℕ). if_there (slice_get ss k) ++ take n (drop m (s ∷ ss))) (one_up k) ∙ next_cut n k ss

pub held_turns : (n k i : ℕ) (logs : List (List Segment)) (ss : List Segment) → slice_get logs i ≡ Some ss → log_held i (turns_from k n logs) ≡ take n (drop k ss)
held_turns zero k i logs ss at = refl
held_turns (suc n) k i logs ss at =
    let z : 0 + i ≡ i = omega arith in
    let here : log_held i (turn_from k 0 logs) ≡ if_there (slice_get ss k) = ap (λ (u : ℕ). log_held u (turn_from k 0 logs)) (sym z) ∙ held_turn k 0 i logs ss at in
    log_held-append i (turn_from k 0 logs) (turns_from (k + 1) n logs)
    ∙ (ap (λ (l : List Segment). l ++ log_held i (turns_from (k + 1) n logs)) here
    ∙ (ap (λ (l : List Segment). if_there (slice_get ss k) ++ l) (held_turns n (k + 1) i logs ss at) ∙ next_cut n k ss))

within_most : (i : ℕ) (logs : List (List Segment)) (ss : List Segment) → slice_get logs i ≡ Some ss → length ss ≤ most_entries logs
within_most i [] ss at = absurd (cc)
within_most zero (x ∷ logs) ss at = let is : x ≡ ss = (cc) in let n : length x ≡ length ss = ap (λ (l : List Segment). length l) is in omega (arith, n)
within_most (suc i) (x ∷ logs) ss at = let h = within_most i logs ss at in omega (arith, h)

-- of each log all entries are there
pub held_all : (i : ℕ) (logs : List (List Segment)) (ss : List Segment) → slice_get logs i ≡ Some ss → log_held i (in_turns logs) ≡ ss
held_all i logs ss at = held_turns (most_entries logs) 0 i logs ss at ∙ take_all (most_entries logs) ss (within_most i logs ss at)

-- ---- the threads
entry_of_thread : (count t : ℕ) (o : Option Segment) (rest : List HeldEntry) → t < count → AllByRecursion (IsOfThreads count) rest → AllByRecursion (IsOfThreads count) (entry_then t o rest)
entry_of_thread count t None rest low h = h
entry_of_thread count t (Some s) rest low h = (low, h)

turn_of_threads : (count k t : ℕ) (logs : List (List Segment)) → t + length logs ≤ count → AllByRecursion (IsOfThreads count) (turn_from k t logs)
turn_of_threads count k t [] few = tt
turn_of_threads count k t (ss ∷ logs) few = entry_of_thread count t (slice_get ss k) (turn_from k (t + 1) logs) (omega (arith, few)) (turn_of_threads count k (t + 1) logs (omega (arith, few)))

pub turns_of_threads : (k n : ℕ) (logs : List (List Segment)) → AllByRecursion (IsOfThreads (length logs)) (turns_from k n logs)
turns_of_threads k zero logs = tt
turns_of_threads k (suc n) logs =
    all_append (IsOfThreads (length logs)) (turn_from k 0 logs) (turns_from (k + 1) n logs) (turn_of_threads (length logs) k 0 logs (omega arith)) (turns_of_threads (k + 1) n logs)
