-- What holds of the row of each update, and of those of the base, holds of each row of a legal history.

use Rattle.std.proofs.Common.{ℕ, zero, suc, ◌≡◌, ◌+◌, ◌<◌, Bool, true, false, if◌then◌else◌, List, [], ◌∷◌, ◌++◌, length, drop, Option, Some, None, IsSome, refl, sym, ap, ◌∙◌, subst, arith}
use Rattle.std.specs.List.{AllByRecursion}
use Rattle.std.proofs.lemmas.Bool.Decides.{nat_tests}
use Rattle.std.proofs.lemmas.List.{take-append-drop}
use Rattle.onll_words.specs.declared.line.OpRow.{OpRow}
use Rattle.onll_model.specs.declared.node.Node.{Node}
use Rattle.onll_model.specs.declared.call.Call.{Call}
use Rattle.onll_model.specs.declared.call.Call.TheVariants.{Update, Ask}
use Rattle.onll_model.specs.declared.call.CallEnd.{CallEnd}
use Rattle.onll_model.specs.Object.{Behaviour}
use Rattle.onll_model.specs.Trace.{is_of_thread}
use Rattle.onll_model.specs.Legal.{place_in, at_place, placed_updates, placed_rows, AreLegalThreads, IsLegal}
use Rattle.onll_model.proofs.Lists.{all_at, all_from, all_append, all_drop}

module _ {State Op Query Reply : Type 0} (b : Behaviour State Op Query Reply) (Row : OpRow → Type 0) where
  -- each update of the calls has such a row
  abbrev pub HaveRows : List (Call State Op Query Reply) → Type 0
  HaveRows [] = Unit {0}
  HaveRows (Update op ∷ calls) = Row (b.row_of op) × HaveRows calls
  HaveRows (Ask query ∷ calls) = HaveRows calls

  abbrev Placed : OpRow × ℕ → Type 0
  Placed x = Row x.0

  -- a node of this thread has such a row
  abbrev Own : ℕ → Node → Type 0
  Own t n = is_of_thread t n ≡ true → Row n.row

  place_before : (row : OpRow) (place : Option ℕ) (rest : List (OpRow × ℕ)) → Row row → AllByRecursion Placed rest → AllByRecursion Placed (at_place row place ++ rest)
  place_before row None rest r h = h
  place_before row (Some p) rest r h = (r, h)

  updates_placed : (calls : List (Call State Op Query Reply)) (ends : List (CallEnd State Op Query Reply)) → HaveRows calls → AllByRecursion Placed (placed_updates b calls ends)
  updates_placed [] ends r = tt
  updates_placed (c ∷ calls) [] r = tt
  updates_placed (Update op ∷ calls) (e ∷ ends) r = place_before (b.row_of op) (place_in e) (placed_updates b calls ends) r.0 (updates_placed calls ends r.1)
  updates_placed (Ask query ∷ calls) (e ∷ ends) r = updates_placed calls ends r

  first_own : (q : Bool) (n : Node) (place : ℕ) (rest : List (OpRow × ℕ)) → AllByRecursion Placed ((if q then (n.row, place) ∷ [] else []) ++ rest) → (q ≡ true → Row n.row) × AllByRecursion Placed rest
  first_own true n place rest h = (λ e. h.0, h.1)
  first_own false n place rest h = (λ e. absurd (cc e), h)

  own_rows : (t below : ℕ) (nodes : List Node) → AllByRecursion Placed (placed_rows t below nodes) → AllByRecursion (Own t) nodes
  own_rows t below [] h = tt
  own_rows t below (n ∷ nodes) h =
      let parts = first_own (is_of_thread t n) n (below + 1) (placed_rows t (below + 1) nodes) h in
      (parts.0, own_rows t (below + 1) nodes parts.1)

  thread_rows : (s : State) (base : ℕ) (trace : List Node) (u : ℕ) (scripts : List (List (Call State Op Query Reply))) (ends : List (List (CallEnd State Op Query Reply))) → AreLegalThreads b s base trace u scripts ends
      → AllByRecursion HaveRows scripts → (t : ℕ) → t < length scripts → AllByRecursion (Own (u + t)) (drop base trace)
  thread_rows s base trace u [] ends h r t low = absurd (omega arith)
  thread_rows s base trace u (calls ∷ scripts) [] h r t low = absurd h
  thread_rows s base trace u (calls ∷ scripts) (es ∷ ends) h r zero low =
      let same : u ≡ u + 0 = omega arith in
      subst (λ (t : ℕ). AllByRecursion (Own t) (drop base trace)) same
      (own_rows u base (drop base trace) (subst (AllByRecursion Placed) h.0.places (updates_placed calls es r.0)))
  thread_rows s base trace u (calls ∷ scripts) (es ∷ ends) h r (suc t) low =
      let same : u + 1 + t ≡ u + suc t = omega arith in
      subst (λ (v : ℕ). AllByRecursion (Own v) (drop base trace)) same (thread_rows s base trace (u + 1) scripts ends h.1 r.1 t (omega arith))

  own_thread : (n : Node) → is_of_thread n.thread n ≡ true
  own_thread n = grind (arith, nat_tests)

  -- the rows above the base
  rows_above : (s : State) (base : List Node) (scripts : List (List (Call State Op Query Reply))) (trace : List Node) (ends : List (List (CallEnd State Op Query Reply))) → AllByRecursion HaveRows scripts
      → IsLegal b s base scripts trace ends → AllByRecursion (λ n. Row n.row) (drop (length base) trace)
  rows_above s base scripts trace ends r legal =
      all_from (λ n. Row n.row) above (λ i n at.
      let low = all_at (λ (x : Node). x.thread < length scripts) above (all_drop (λ (x : Node). x.thread < length scripts) (length base) trace legal.threads) i n at in
      all_at (Own n.thread) above (rows_of n.thread low) i n at (own_thread n))
    where
      above : List Node
      above = drop (length base) trace

      rows_of : (t : ℕ) → t < length scripts → AllByRecursion (Own t) above
      rows_of t low =
          let same : 0 + t ≡ t = omega arith in
          subst (λ (v : ℕ). AllByRecursion (Own v) above) same (thread_rows s (length base) trace 0 scripts ends legal.outcomes r t low)

  pub legal_rows : (s : State) (base : List Node) (scripts : List (List (Call State Op Query Reply))) (trace : List Node) (ends : List (List (CallEnd State Op Query Reply))) → AllByRecursion HaveRows scripts
      → AllByRecursion (λ n. Row n.row) base → IsLegal b s base scripts trace ends → AllByRecursion (λ n. Row n.row) trace
  legal_rows s base scripts trace ends r first legal =
      subst (AllByRecursion (λ n. Row n.row)) (ap (λ (ns : List Node). ns ++ drop (length base) trace) (sym legal.begins) ∙ take-append-drop (length base) trace)
      (all_append (λ n. Row n.row) base (drop (length base) trace) first (rows_above s base scripts trace ends r legal))

-- ---- operations
module _ {State Op Query Reply : Type 0} (b : Behaviour State Op Query Reply) where
  abbrev IsOperation : OpRow → Type 0
  IsOperation row = IsSome (b.op_at row)

  is_operation : (op : Op) → IsOperation (b.row_of op)
  is_operation op = subst (λ (o : Option Op). IsSome o) (sym (b.op_of_its_row op)) refl

  updates_operations : (calls : List (Call State Op Query Reply)) → HaveRows b IsOperation calls
  updates_operations [] = tt
  updates_operations (Update op ∷ calls) = (is_operation op, updates_operations calls)
  updates_operations (Ask query ∷ calls) = updates_operations calls

  all_operations : (scripts : List (List (Call State Op Query Reply))) → AllByRecursion (HaveRows b IsOperation) scripts
  all_operations [] = tt
  all_operations (calls ∷ scripts) = (updates_operations calls, all_operations scripts)

  -- over a base of operations each row is an operation's
  pub legal_operations : (s : State) (base : List Node) (scripts : List (List (Call State Op Query Reply))) (trace : List Node) (ends : List (List (CallEnd State Op Query Reply)))
      → AllByRecursion (λ (n : Node). IsSome (b.op_at n.row)) base → IsLegal b s base scripts trace ends → AllByRecursion (λ (n : Node). IsSome (b.op_at n.row)) trace
  legal_operations s base scripts trace ends first legal = legal_rows b IsOperation s base scripts trace ends (all_operations scripts) first legal
