-- A legal trace that begins anew has no more nodes than its threads have updates.

use Rattle.std.proofs.Common.{ℕ, suc, ◌≡◌, ◌≤◌, ◌<◌, ◌+◌, ◌*◌, Bool, true, false, List, [], ◌∷◌, ◌++◌, cond, count_by, length, Option, Some, None, ap, arith, sym, subst}
use Rattle.std.proofs.lemmas.List.Sums.{sum_by-cons}
use Rattle.std.specs.List.{AllByRecursion}
use mathlib.Core.Logic.{dite}
use native.Mathlib.Decide.{ℕ_discrete}
use Rattle.onll_words.specs.declared.line.OpRow.{OpRow}
use Rattle.onll_model.specs.declared.node.Node.{Node}
use Rattle.onll_model.specs.declared.call.Call.{Call}
use Rattle.onll_model.specs.declared.call.Call.TheVariants.{Update, Ask}
use Rattle.onll_model.specs.declared.call.CallEnd.{CallEnd}
use Rattle.onll_model.specs.Calls.{updates_in}
use Rattle.onll_model.specs.Object.{Behaviour}
use Rattle.onll_model.specs.Legal.{place_in, at_place, placed_updates, placed_rows, AreLegalThreads, IsLegal}
use Rattle.onll_model.specs.Trace.{is_of_thread}
use Rattle.onll_model.proofs.Counting.{few_in_all}

-- a thread has a row for each of its nodes
one_row : (own : Bool) (row : OpRow × ℕ) (rest : List (OpRow × ℕ)) → length (cond own (row ∷ []) [] ++ rest) ≡ cond {A = ℕ} own 1 0 + length rest
one_row true row rest = omega arith
one_row false row rest = omega arith

rows_counted : (t below : ℕ) (nodes : List Node) → length (placed_rows t below nodes) ≡ count_by (is_of_thread t) nodes
rows_counted t below [] = omega arith
rows_counted t below (x ∷ nodes) =
    let here = one_row (is_of_thread t x) (x.row, below + 1) (placed_rows t (below + 1) nodes) in
    let rest = rows_counted t (below + 1) nodes in
    let count : count_by (is_of_thread t) (x ∷ nodes) ≡ cond {A = ℕ} (is_of_thread t x) 1 0 + count_by (is_of_thread t) nodes =
    sum_by-cons (λ (y : Node). cond {A = ℕ} (is_of_thread t y) 1 0) x nodes in
    omega arith

-- one update more has one place at most
one_placed : (row : OpRow) (place : Option ℕ) (rest : List (OpRow × ℕ)) (n : ℕ) → length rest ≤ n → length (at_place row place ++ rest) ≤ suc n
one_placed row None rest n h = omega arith
one_placed row (Some place) rest n h = omega arith

module _ {State Op Query Reply : Type 0} (b : Behaviour State Op Query Reply) where
  few_placed : (calls : List (Call State Op Query Reply)) (ends : List (CallEnd State Op Query Reply)) → length (placed_updates b calls ends) ≤ updates_in calls
  few_placed [] ends = omega arith
  few_placed (Update op ∷ calls) [] = omega arith
  few_placed (Ask query ∷ calls) [] = omega arith
  few_placed (Update op ∷ calls) (e ∷ ends) = one_placed (b.row_of op) (place_in e) (placed_updates b calls ends) (updates_in calls) (few_placed calls ends)
  few_placed (Ask query ∷ calls) (e ∷ ends) = few_placed calls ends

  few_of_each : (s : State) (nodes : List Node) (most t : ℕ) (scripts : List (List (Call State Op Query Reply))) (ends : List (List (CallEnd State Op Query Reply)))
      → AreLegalThreads b s 0 nodes t scripts ends → AllByRecursion (λ (script : List (Call State Op Query Reply)). updates_in script ≤ most) scripts
      → (u : ℕ) → t ≤ u → u < t + length scripts → count_by (is_of_thread u) nodes ≤ most
  few_of_each s nodes most t [] [] legal few u low high = absurd (omega arith)
  few_of_each s nodes most t [] (es ∷ ends) legal few u low high = absurd legal
  few_of_each s nodes most t (script ∷ scripts) [] legal few u low high = absurd legal
  few_of_each s nodes most t (script ∷ scripts) (es ∷ ends) legal few u low high = dite (ℕ_discrete u t)
      (λ is.
      let same : length (placed_updates b script es) ≡ length (placed_rows t 0 nodes) = ap length legal.0.places in
      let rows = rows_counted t 0 nodes in
      let placed = few_placed script es in
      let most_here = few.0 in
      let own : count_by (is_of_thread t) nodes ≤ most = omega arith in
      subst (λ (v : ℕ). count_by (is_of_thread v) nodes ≤ most) (sym is) own)
      (λ other. few_of_each s nodes most (t + 1) scripts ends legal.1 few.1 u (omega arith) (omega arith))

  pub few_nodes : (s : State) (scripts : List (List (Call State Op Query Reply))) (nodes : List Node) (ends : List (List (CallEnd State Op Query Reply))) (most : ℕ)
      → IsLegal b s [] scripts nodes ends → AllByRecursion (λ (script : List (Call State Op Query Reply)). updates_in script ≤ most) scripts
      → length nodes ≤ most * length scripts
  few_nodes s scripts nodes ends most legal few =
      few_in_all most (length scripts) nodes (λ t l. few_of_each s nodes most 0 scripts ends legal.outcomes few t (omega arith) (omega arith)) legal.threads
