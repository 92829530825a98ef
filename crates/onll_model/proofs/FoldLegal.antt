use Rattle.std.proofs.Common.{ℕ, List, [], ◌∷◌, ◌++◌, ◌≡◌, ◌+◌, ◌-◌, ◌≤◌, ◌<◌, None, length, take, refl, sym, ap, ◌∙◌, arith, append_assoc, length-append, count_by, cond, Option, Some, IsSome}
use Rattle.std.proofs.Math.Seq.{take-append_seam}
use Rattle.std.proofs.lemmas.List.Sums.{sum_by-append}
use Rattle.std.specs.List.{AllByRecursion}
use Rattle.onll_model.specs.declared.node.Node.{Node}
use Rattle.onll_model.specs.declared.call.Call.{Call}
use Rattle.onll_model.specs.declared.call.Call.TheVariants.{Update, Ask}
use Rattle.onll_model.specs.declared.call.CallEnd.TheVariants.{Answered}
use Rattle.onll_model.specs.Object.{Behaviour}
use Rattle.onll_model.specs.Trace.{is_of_thread, state_after, after_row, NumberedAbove}
use Rattle.onll_model.specs.Legal.{placed_updates, placed_rows, EachEnd, EachLaterEnd, HasReply, HasAnswer, InOrder, BrokenAfterFailure, OverButLast, IsLegal}
use Rattle.onll_model.specs.Fold.{fold_trace, fold_ends, fold_state}
use Rattle.onll_model.specs.FoldLaws.{AreAnswered}
use Rattle.onll_model.proofs.States.{state_after-append}
use Rattle.onll_model.specs.Recovered.{operations_front, where_some}

-- the updates stand at the places of their nodes
fold_places : {State Op Query Reply : Type 0} (b : Behaviour State Op Query Reply) (s : State) (n : ℕ) (calls : List (Call State Op Query Reply))
    → placed_updates b calls (fold_ends b s n calls) ≡ placed_rows 0 n (fold_trace b n calls)
fold_places b s n [] = refl
fold_places b s n (Update op ∷ calls) = ap (λ l. (b.row_of op, n + 1) ∷ l) (fold_places b (b.next s op) (n + 1) calls)
fold_places b s n (Ask query ∷ calls) = fold_places b s n calls

fold_numbered : {State Op Query Reply : Type 0} (b : Behaviour State Op Query Reply) (below : List Node) (n : ℕ) (calls : List (Call State Op Query Reply))
    → count_by (is_of_thread 0) below ≡ n → NumberedAbove below (fold_trace b n calls)
fold_numbered b below n [] e = tt
fold_numbered b below n (Update op ∷ calls) e =
    let x : Node = record { thread = 0; number = n + 1; row = b.row_of op } in
    (ap (λ k. k + 1) (sym e), fold_numbered b (below ++ x ∷ []) (n + 1) calls (sum_by-append (λ (m : Node). cond (is_of_thread 0 m) 1 0) below (x ∷ []) ∙ ap (λ k. k + 1) e))
fold_numbered b below n (Ask query ∷ calls) e = fold_numbered b below n calls e

fold_threads : {State Op Query Reply : Type 0} (b : Behaviour State Op Query Reply) (n : ℕ) (calls : List (Call State Op Query Reply))
    → AllByRecursion (λ (x : Node). x.thread < 1) (fold_trace b n calls)
fold_threads b n [] = tt
fold_threads b n (Update op ∷ calls) = (omega arith, fold_threads b (n + 1) calls)
fold_threads b n (Ask query ∷ calls) = fold_threads b n calls

-- a front of the trace, by its length
front_of : (before rest trace : List Node) (n : ℕ) → trace ≡ before ++ rest → n ≡ length before → take n trace ≡ before
front_of before rest trace n h e = rw (e, h) (take-append_seam before rest)

-- the calls that are left are answered as the object does after the nodes so far
fold_answers : {State Op Query Reply : Type 0} (b : Behaviour State Op Query Reply) (s₀ : State) (before trace : List Node) (s : State) (n : ℕ) (calls : List (Call State Op Query Reply))
    → trace ≡ before ++ fold_trace b n calls → n ≡ length before → s ≡ state_after b s₀ before
    → EachEnd (HasReply b s₀ trace) calls (fold_ends b s n calls) × EachEnd (HasAnswer b s₀ 0 trace) calls (fold_ends b s n calls)
fold_answers b s₀ before trace s n [] h e k = (tt, tt)
fold_answers b s₀ before trace s n (Update op ∷ calls) h e k =
    let x : Node = record { thread = 0; number = n + 1; row = b.row_of op } in
    let rest = fold_trace b (n + 1) calls in
    let m : n + 1 - 1 ≡ n = omega arith in
    let more = fold_answers b s₀ (before ++ x ∷ []) trace (b.next s op) (n + 1) calls
    (h ∙ sym (append_assoc before (x ∷ []) rest))
    (omega (arith, length-append before (x ∷ [])))
    (ap (λ t. b.next t op) k ∙ sym (state_after-append b s₀ before (x ∷ []) ∙ ap (after_row b (state_after b s₀ before)) (b.op_of_its_row op)))
    in ((rw (m, front_of before (x ∷ rest) trace n h e, k) refl, more.0), (tt, more.1))
fold_answers b s₀ before trace s n (Ask query ∷ calls) h e k =
    let rest = fold_trace b n calls in
    let more = fold_answers b s₀ before trace s n calls h e k in
    let within : n ≤ length trace = omega (arith, ap length h, length-append before rest) in
    ((tt, more.0), ((omega arith, within, rw (front_of before rest trace n h e, k) refl), more.1))

-- what comes after a call answered at a place is answered at or after it, and updates above it
fold_later : {State Op Query Reply : Type 0} (b : Behaviour State Op Query Reply) (c : Call State Op Query Reply) (reply : Reply) (place : ℕ) (s : State) (n : ℕ) (calls : List (Call State Op Query Reply))
    → place ≤ n → EachEnd (InOrder c (Answered reply place)) calls (fold_ends b s n calls)
fold_later b c reply place s n [] h = tt
fold_later b (Update op₀) reply place s n (Update op ∷ calls) h = (tt, fold_later b (Update op₀) reply place (b.next s op) (n + 1) calls (omega arith))
fold_later b (Ask query₀) reply place s n (Update op ∷ calls) h = (omega arith, fold_later b (Ask query₀) reply place (b.next s op) (n + 1) calls (omega arith))
fold_later b c reply place s n (Ask query ∷ calls) h = (h, fold_later b c reply place s n calls h)

fold_in_order : {State Op Query Reply : Type 0} (b : Behaviour State Op Query Reply) (s : State) (n : ℕ) (calls : List (Call State Op Query Reply))
    → EachLaterEnd InOrder calls (fold_ends b s n calls)
fold_in_order b s n [] = tt
fold_in_order b s n (Update op ∷ calls) = (fold_later b (Update op) (b.reply s op) (n + 1) (b.next s op) (n + 1) calls (omega arith), fold_in_order b (b.next s op) (n + 1) calls)
fold_in_order b s n (Ask query ∷ calls) = (fold_later b (Ask query) (b.answer s query) n s n calls (omega arith), fold_in_order b s n calls)

fold_unbroken : {State Op Query Reply : Type 0} (b : Behaviour State Op Query Reply) (s : State) (n : ℕ) (calls : List (Call State Op Query Reply))
    → BrokenAfterFailure None calls (fold_ends b s n calls)
fold_unbroken b s n [] = tt
fold_unbroken b s n (Update op ∷ calls) = fold_unbroken b (b.next s op) (n + 1) calls
fold_unbroken b s n (Ask query ∷ calls) = fold_unbroken b s n calls

fold_over : {State Op Query Reply : Type 0} (b : Behaviour State Op Query Reply) (s : State) (n : ℕ) (calls : List (Call State Op Query Reply))
    → OverButLast (fold_ends b s n calls)
fold_over b s n [] = tt
fold_over b s n (Update op ∷ []) = tt
fold_over b s n (Ask query ∷ []) = tt
fold_over b s n (Update op ∷ Update next ∷ calls) = (tt, fold_over b (b.next s op) (n + 1) (Update next ∷ calls))
fold_over b s n (Update op ∷ Ask next ∷ calls) = (tt, fold_over b (b.next s op) (n + 1) (Ask next ∷ calls))
fold_over b s n (Ask query ∷ Update next ∷ calls) = (tt, fold_over b s n (Update next ∷ calls))
fold_over b s n (Ask query ∷ Ask next ∷ calls) = (tt, fold_over b s n (Ask next ∷ calls))

-- one script done in order is a legal report
pub fold_legal : {State Op Query Reply : Type 0} (b : Behaviour State Op Query Reply) (s : State) (calls : List (Call State Op Query Reply))
    → IsLegal b s [] (calls ∷ []) (fold_trace b 0 calls) (fold_ends b s 0 calls ∷ [])
fold_legal b s calls =
    let answers = fold_answers b s [] (fold_trace b 0 calls) s 0 calls refl refl refl in
    record {
      begins = refl;
      numbered = fold_numbered b [] 0 calls refl;
      threads = fold_threads b 0 calls;
      outcomes = (
        record {
          places = fold_places b s 0 calls;
          replies = answers.0;
          answers = answers.1;
          reads_in_order = fold_in_order b s 0 calls;
          broken = fold_unbroken b s 0 calls;
          over = fold_over b s 0 calls;
        },
        tt,
      );
    }

-- each call of a script done in order is answered
pub fold_answered : {State Op Query Reply : Type 0} (b : Behaviour State Op Query Reply) (s : State) (n : ℕ) (calls : List (Call State Op Query Reply)) → AreAnswered calls (fold_ends b s n calls)
fold_answered b s n [] = tt
fold_answered b s n (Update op ∷ calls) = fold_answered b (b.next s op) (n + 1) calls
fold_answered b s n (Ask query ∷ calls) = fold_answered b s n calls

-- the trace of calls leads to the state that they leave
pub fold_reaches : {State Op Query Reply : Type 0} (b : Behaviour State Op Query Reply) (s : State) (n : ℕ) (calls : List (Call State Op Query Reply)) → fold_state b s calls ≡ state_after b s (fold_trace b n calls)
fold_reaches b s n [] = refl
fold_reaches b s n (Update op ∷ calls) = fold_reaches b (b.next s op) (n + 1) calls ∙ ap (λ o. state_after b (after_row b s o) (fold_trace b (n + 1) calls)) (sym (b.op_of_its_row op))
fold_reaches b s n (Ask query ∷ calls) = fold_reaches b s n calls

-- ---- rows
-- nodes all of whose rows are operations
pub where_same : {A : Type 0} (o : Option A) (n : Node) (front nodes : List Node) → where_some o (n ∷ front) ≡ n ∷ nodes → IsSome o × (front ≡ nodes)
where_same None n front nodes e = (cc)
where_same (Some x) n front nodes e = (refl, (cc))

pub all_operations : {State Op Query Reply : Type 0} (b : Behaviour State Op Query Reply) (nodes : List Node) → operations_front b nodes ≡ nodes → AllByRecursion (λ (n : Node). IsSome (b.op_at n.row)) nodes
all_operations b [] e = tt
all_operations b (n ∷ nodes) e =
    let found = where_same (b.op_at n.row) n (operations_front b nodes) nodes e in (found.0, all_operations b nodes found.1)
