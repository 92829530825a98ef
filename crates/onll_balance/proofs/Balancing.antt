-- What rises by what operations put in, and falls by what they take out, is balanced in any legal history, up to any place with every
-- answered call.

use Rattle.std.proofs.Common.{ℕ, zero, suc, ◌≡◌, ◌+◌, ◌-◌, ◌<◌, ◌≤◌, Bool, true, false, if◌then◌else◌, nat_lt, List, [], ◌∷◌, length, take, drop, Option, Some, None, refl, sym, ap, ◌∙◌, subst, arith}
use Rattle.std.specs.List.{AllByRecursion, slice_get}
use Rattle.std.proofs.lemmas.Bool.Decides.{nat_tests}
use Rattle.std.proofs.lemmas.List.{take_all}
use Rattle.onll_words.specs.declared.line.OpRow.{OpRow}
use Rattle.onll_model.specs.Object.{Behaviour}
use Rattle.onll_model.specs.declared.node.Node.{Node}
use Rattle.onll_model.specs.declared.call.Call.{Call}
use Rattle.onll_model.specs.declared.call.Call.TheVariants.{Update, Ask}
use Rattle.onll_model.specs.declared.call.CallEnd.{CallEnd}
use Rattle.onll_model.specs.declared.call.CallEnd.TheVariants.{Answered, Running, Ordered, FenceFailed, Broken}
use Rattle.onll_model.specs.Trace.{state_after, after_row, reply_after}
use Rattle.onll_model.specs.Legal.{placed_updates, EachEnd, HasReply, AreLegalThreads, IsLegal}
use Rattle.onll_model.proofs.Lists.{all_drop, length_dropped, get_dropped}
use Rattle.onll_run.specs.Outcomes.{StandsIn}
use Rattle.onll_balance.specs.Floor.{Floor}
use Rattle.onll_balance.specs.Measure.{Measure, tally_of, tally, out_by, back_by}
use Rattle.onll_balance.specs.Balance.{FrontBalanceLaw, FrontFloorLaw, WholeBalanceLaw, WholeFloorLaw}
use Rattle.onll_balance.proofs.Placing.{over_placed, over_nodes, over_threads, threads_all}
use Rattle.onll_balance.proofs.Nodes.{fits, next_state}
use Rattle.onll_balance.proofs.Standing.{all_in}

abbrev on_row : {Op : Type 0} → (Op → ℕ) → Option Op → ℕ
on_row f None = 0
on_row f (Some op) = f op

-- ---- what counts is at one of the first k places
abbrev cut : ℕ → ℕ → ℕ → ℕ
cut k place x = if nat_lt k place then 0 else x

cut_in : (k place x : ℕ) → place ≤ k → cut k place x ≡ x
cut_in k place x low = let q : nat_lt k place ≡ false = grind (arith, nat_tests) in ap (λ (t : Bool). if t then 0 else x) q

cut_out : (k place x : ℕ) → k < place → cut k place x ≡ 0
cut_out k place x high = let q : nat_lt k place ≡ true = grind (arith, nat_tests) in ap (λ (t : Bool). if t then 0 else x) q

cut_le : (k place x : ℕ) → cut k place x ≤ x
cut_le k place x = by (nat_lt k place)
  where
    by : (q : Bool) → (if q then 0 else x) ≤ x
    by true = omega arith
    by false = omega arith

none_above : (w : OpRow → ℕ → ℕ) (k below : ℕ) (ns : List Node) → k ≤ below → over_nodes (λ row place. cut k place (w row place)) below ns ≡ 0
none_above w k below [] low = refl
none_above w k below (n ∷ ns) low =
    let here = cut_out k (below + 1) (w n.row (below + 1)) (omega (arith, low)) in
    let rest = none_above w k (below + 1) ns (omega (arith, low)) in
    omega (arith, here, rest)

-- A measure and a floor at once: `up` is what is left, and `down` is nothing; or the other way round.
record Drift {State Op Query Reply : Type 0} (b : Behaviour State Op Query Reply) : Type 0 where
  up : State → ℕ
  down : State → ℕ
  out : Op → Reply → ℕ
  back : Op → Reply → ℕ
  most : Op → ℕ
  within : (op : Op) (reply : Reply) → back op reply ≤ most op
  step : (s : State) (op : Op) → up (b.next s op) + down s + out op (b.reply s op) ≤ up s + down (b.next s op) + back op (b.reply s op)

module _ {State Op Query Reply : Type 0} (b : Behaviour State Op Query Reply) (m : Drift b) where
  step_row : (s : State) (o : Option Op) → m.up (after_row b s o) + m.down s + on_row (λ op. m.out op (b.reply s op)) o
      ≤ m.up s + m.down (after_row b s o) + on_row (λ op. m.back op (b.reply s op)) o
  step_row s None = omega arith
  step_row s (Some op) = m.step s op

  -- ---- the nodes of a trace, with the state after each place
  module _ (at : ℕ → State) where
    abbrev outs : OpRow → ℕ → ℕ
    outs row place = on_row (λ op. m.out op (b.reply (at (place - 1)) op)) (b.op_at row)

    abbrev backs : OpRow → ℕ → ℕ
    backs row place = on_row (λ op. m.back op (b.reply (at (place - 1)) op)) (b.op_at row)

    abbrev Follows : ℕ → List Node → Type 0
    Follows below [] = Unit {0}
    Follows below (n ∷ ns) = (at (below + 1) ≡ after_row b (at below) (b.op_at n.row)) × Follows (below + 1) ns

    module _ (k : ℕ) where
      abbrev outs_to : OpRow → ℕ → ℕ
      outs_to row place = cut k place (outs row place)

      abbrev backs_to : OpRow → ℕ → ℕ
      backs_to row place = cut k place (backs row place)

      balance : (j below : ℕ) (ns : List Node) → Follows below ns → j ≤ length ns → below + j ≡ k
          → m.up (at k) + m.down (at below) + over_nodes outs_to below ns ≤ m.up (at below) + m.down (at k) + over_nodes backs_to below ns
      balance zero below ns f low e =
          let none_out = none_above outs k below ns (omega (arith, e)) in
          let none_back = none_above backs k below ns (omega (arith, e)) in
          let here : k ≡ below = omega (arith, e) in
          let same_up : m.up (at k) ≡ m.up (at below) = ap (λ (p : ℕ). m.up (at p)) here in
          let same_down : m.down (at k) ≡ m.down (at below) = ap (λ (p : ℕ). m.down (at p)) here in
          omega (arith, none_out, none_back, same_up, same_down)
      balance (suc j) below [] f low e = absurd (omega (arith, low))
      balance (suc j) below (n ∷ ns) f low e =
          let rest = balance j (below + 1) ns f.1 (omega (arith, low)) (omega (arith, e)) in
          let o_in = cut_in k (below + 1) (outs n.row (below + 1)) (omega (arith, e)) in
          let b_in = cut_in k (below + 1) (backs n.row (below + 1)) (omega (arith, e)) in
          let z : below + 1 - 1 ≡ below = omega arith in
          let o_is = ap (λ (p : ℕ). on_row (λ op. m.out op (b.reply (at p) op)) (b.op_at n.row)) z in
          let b_is = ap (λ (p : ℕ). on_row (λ op. m.back op (b.reply (at p) op)) (b.op_at n.row)) z in
          let count = step_row (at below) (b.op_at n.row) in
          let up_next = ap m.up f.0 in
          let down_next = ap m.down f.0 in
          omega (arith, rest, o_in, b_in, o_is, b_is, count, up_next, down_next)

  module _ (first : State) (trace : List Node) where
    abbrev state_at : ℕ → State
    state_at place = state_after b first (take place trace)

    follows : (below : ℕ) (ns : List Node) → ((i : ℕ) (n : Node) → slice_get ns i ≡ Some n → slice_get trace (below + i) ≡ Some n) → Follows state_at below ns
    follows below [] h = tt
    follows below (n ∷ ns) h =
        let z : below + 0 ≡ below = omega arith in
        let one : suc below ≡ below + 1 = omega arith in (
          sym (ap state_at one) ∙ next_state b first trace below n (sym (ap (slice_get trace) z) ∙ h 0 n refl),
          follows (below + 1) ns (λ i x e. let y : below + suc i ≡ below + 1 + i = omega arith in sym (ap (slice_get trace) y) ∙ h (suc i) x e),
        )

    module _ (k : ℕ) where
      abbrev out_at : OpRow → ℕ → ℕ
      out_at = outs_to state_at k

      abbrev back_at : OpRow → ℕ → ℕ
      back_at = backs_to state_at k

      -- ---- one thread
      out_here : (op : Op) (reply : Reply) (place : ℕ) → place ≤ k → reply ≡ reply_after b first (take (place - 1) trace) op → m.out op reply ≡ out_at (b.row_of op) place
      out_here op reply place low r =
          let here = ap (on_row (λ o. m.out o (b.reply (state_at (place - 1)) o))) (b.op_of_its_row op) in
          ap (m.out op) r ∙ sym here ∙ sym (cut_in k place (outs state_at (b.row_of op) place) low)

      out_thread : (calls : List (Call State Op Query Reply)) (ends : List (CallEnd State Op Query Reply)) → EachEnd (HasReply b first trace) calls ends → AllByRecursion (StandsIn k) ends
          → tally_of (out_by m.out) calls ends ≤ over_placed out_at (placed_updates b calls ends)
      out_thread [] [] h a = omega arith
      out_thread [] (e ∷ ends) h a = omega arith
      out_thread (c ∷ calls) [] h a = omega arith
      out_thread (Update op ∷ calls) (Answered reply place ∷ ends) h a = let here = out_here op reply place a.0 h.0 in let rest = out_thread calls ends h.1 a.1 in omega (arith, here, rest)
      out_thread (Update op ∷ calls) (Running ∷ ends) h a = let rest = out_thread calls ends h.1 a.1 in omega (arith, rest)
      out_thread (Update op ∷ calls) (Ordered place ∷ ends) h a = let rest = out_thread calls ends h.1 a.1 in omega (arith, rest)
      out_thread (Update op ∷ calls) (FenceFailed place ∷ ends) h a = let rest = out_thread calls ends h.1 a.1 in omega (arith, rest)
      out_thread (Update op ∷ calls) (Broken place ∷ ends) h a = let rest = out_thread calls ends h.1 a.1 in omega (arith, rest)
      out_thread (Ask query ∷ calls) (e ∷ ends) h a = let rest = out_thread calls ends h.1 a.1 in omega (arith, rest)

      back_is : (op : Op) (place : ℕ) → back_at (b.row_of op) place ≤ m.back op (b.reply (state_at (place - 1)) op)
      back_is op place =
          subst (λ (x : ℕ). back_at (b.row_of op) place ≤ x)
          (ap (on_row (λ o. m.back o (b.reply (state_at (place - 1)) o))) (b.op_of_its_row op))
          (cut_le k place (backs state_at (b.row_of op) place))

      back_here : (op : Op) (reply : Reply) (place : ℕ) → reply ≡ reply_after b first (take (place - 1) trace) op → back_at (b.row_of op) place ≤ m.back op reply
      back_here op reply place r = subst (λ (x : Reply). back_at (b.row_of op) place ≤ m.back op x) (sym r) (back_is op place)

      back_most : (op : Op) (place : ℕ) → back_at (b.row_of op) place ≤ m.most op
      back_most op place = let here = back_is op place in let most = m.within op (b.reply (state_at (place - 1)) op) in omega (arith, here, most)

      back_thread : (calls : List (Call State Op Query Reply)) (ends : List (CallEnd State Op Query Reply)) → EachEnd (HasReply b first trace) calls ends → over_placed back_at (placed_updates b calls ends) ≤ tally_of (back_by m.back m.most) calls ends
      back_thread [] ends h = omega arith
      back_thread (c ∷ calls) [] h = omega arith
      back_thread (Update op ∷ calls) (Answered reply place ∷ ends) h = let here = back_here op reply place h.0 in let rest = back_thread calls ends h.1 in omega (arith, here, rest)
      back_thread (Update op ∷ calls) (Running ∷ ends) h = let rest = back_thread calls ends h.1 in omega (arith, rest)
      back_thread (Update op ∷ calls) (Ordered place ∷ ends) h = let here = back_most op place in let rest = back_thread calls ends h.1 in omega (arith, here, rest)
      back_thread (Update op ∷ calls) (FenceFailed place ∷ ends) h = let here = back_most op place in let rest = back_thread calls ends h.1 in omega (arith, here, rest)
      back_thread (Update op ∷ calls) (Broken place ∷ ends) h = let rest = back_thread calls ends h.1 in omega (arith, rest)
      back_thread (Ask query ∷ calls) (e ∷ ends) h = let rest = back_thread calls ends h.1 in omega (arith, rest)

      -- ---- all threads, over a base of so many nodes
      module _ (low : ℕ) where
        out_threads : (u : ℕ) (scripts : List (List (Call State Op Query Reply))) (ends : List (List (CallEnd State Op Query Reply))) → AreLegalThreads b first low trace u scripts ends
            → AllByRecursion (λ (es : List (CallEnd State Op Query Reply)). AllByRecursion (StandsIn k) es) ends → tally (out_by m.out) scripts ends ≤ over_threads out_at u (length scripts) low (drop low trace)
        out_threads u [] ends h a = omega arith
        out_threads u (calls ∷ scripts) [] h a = absurd h
        out_threads u (calls ∷ scripts) (es ∷ ends) h a =
            let here = out_thread calls es h.0.replies a.0 in
            let places = ap (over_placed out_at) h.0.places in
            let rest = out_threads (u + 1) scripts ends h.1 a.1 in
            omega (arith, here, places, rest)

        back_threads : (u : ℕ) (scripts : List (List (Call State Op Query Reply))) (ends : List (List (CallEnd State Op Query Reply))) → AreLegalThreads b first low trace u scripts ends
            → over_threads back_at u (length scripts) low (drop low trace) ≤ tally (back_by m.back m.most) scripts ends
        back_threads u [] ends h = omega arith
        back_threads u (calls ∷ scripts) [] h = absurd h
        back_threads u (calls ∷ scripts) (es ∷ ends) h =
            let here = back_thread calls es h.0.replies in
            let places = ap (over_placed back_at) h.0.places in
            let rest = back_threads (u + 1) scripts ends h.1 in
            omega (arith, here, places, rest)

  abbrev Drifts : State → List (List (Call State Op Query Reply)) → List (List (CallEnd State Op Query Reply)) → State → Type 0
  Drifts before scripts ends after = tally (out_by m.out) scripts ends + m.up after + m.down before
      ≤ m.up before + m.down after + tally (back_by m.back m.most) scripts ends

  to_place : (first : State) (base : List Node) (scripts : List (List (Call State Op Query Reply))) (trace : List Node)
      (ends : List (List (CallEnd State Op Query Reply))) (k : ℕ) → IsLegal b first base scripts trace ends
      → length base ≤ k → k ≤ length trace
      → AllByRecursion (λ (es : List (CallEnd State Op Query Reply)). AllByRecursion (StandsIn k) es) ends
      → Drifts (state_after b first base) scripts ends (state_after b first (take k trace))
  to_place first base scripts trace ends k legal low high within =
      let n = length base in
      let long = length_dropped n trace (omega (arith, low, high)) in
      let ns = drop n trace in
      let threads = all_drop (λ (x : Node). x.thread < length scripts) n trace legal.threads in
      let all_out = out_threads first trace k n 0 scripts ends legal.outcomes within in
      let all_back = back_threads first trace k n 0 scripts ends legal.outcomes in
      let out_all = threads_all (out_at first trace k) (length scripts) n ns threads in
      let back_all = threads_all (back_at first trace k) (length scripts) n ns threads in
      let even = balance (state_at first trace) k (k - n) n ns (follows first trace n ns (λ i x e. sym (get_dropped n trace i) ∙ e)) (omega (arith, low, high, long)) (omega (arith, low)) in
      let up_begins = ap (λ (l : List Node). m.up (state_after b first l)) legal.begins in
      let down_begins = ap (λ (l : List Node). m.down (state_after b first l)) legal.begins in
      omega (arith, all_out, all_back, out_all, back_all, even, up_begins, down_begins)

  front_drifts : (first : State) (base : List Node) (scripts : List (List (Call State Op Query Reply))) (trace : List Node)
      (ends : List (List (CallEnd State Op Query Reply))) (nodes : List Node) → IsLegal b first base scripts trace ends
      → take (length nodes) trace ≡ nodes → length base ≤ length nodes
      → AllByRecursion (λ (es : List (CallEnd State Op Query Reply)). AllByRecursion (StandsIn (length nodes)) es) ends
      → Drifts (state_after b first base) scripts ends (state_after b first nodes)
  front_drifts first base scripts trace ends nodes legal front low within =
      subst (λ (l : List Node). Drifts (state_after b first base) scripts ends (state_after b first l)) front
      (to_place first base scripts trace ends (length nodes) legal low (fits nodes trace front) within)

  trace_drifts : (first : State) (base : List Node) (scripts : List (List (Call State Op Query Reply))) (trace : List Node)
      (ends : List (List (CallEnd State Op Query Reply))) → IsLegal b first base scripts trace ends
      → Drifts (state_after b first base) scripts ends (state_after b first trace)
  trace_drifts first base scripts trace ends legal =
      let low : length base ≤ length trace = fits base trace legal.begins in
      subst (λ (l : List Node). Drifts (state_after b first base) scripts ends (state_after b first l)) (take_all (length trace) trace (omega arith))
      (to_place first base scripts trace ends (length trace) legal low (omega arith)
      (all_in b first (length base) trace low 0 scripts ends legal.outcomes))

module _ {State Op Query Reply : Type 0} (b : Behaviour State Op Query Reply) where
  abbrev rises : Measure b → Drift b
  rises m = record {
    up = m.left;
    down = λ s. 0;
    out = m.out;
    back = m.back;
    most = m.most;
    within = m.within;
    step = λ s op. (let here = m.step s op in omega (arith, here));
  }

  abbrev falls : Floor b → Drift b
  falls f = record {
    up = λ s. 0;
    down = f.left;
    out = f.put;
    back = f.out;
    most = f.most;
    within = f.within;
    step = λ s op. (let here = f.step s op in omega (arith, here));
  }

  module _ (m : Measure b) where
    pub over_fronts : FrontBalanceLaw b m
    over_fronts first base scripts trace ends nodes legal front low within =
        let here = front_drifts b (rises m) first base scripts trace ends nodes legal front low within in omega (arith, here)

    pub over_whole : WholeBalanceLaw b m
    over_whole first base scripts trace ends legal =
        let here = trace_drifts b (rises m) first base scripts trace ends legal in omega (arith, here)

  module _ (f : Floor b) where
    pub floor_of_fronts : FrontFloorLaw b f
    floor_of_fronts first base scripts trace ends nodes legal front low within =
        let here = front_drifts b (falls f) first base scripts trace ends nodes legal front low within in omega (arith, here)

    pub floor_of_whole : WholeFloorLaw b f
    floor_of_whole first base scripts trace ends legal =
        let here = trace_drifts b (falls f) first base scripts trace ends legal in omega (arith, here)
