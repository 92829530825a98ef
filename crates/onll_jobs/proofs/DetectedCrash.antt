-- What a crash of a core that began anew leaves tells of each update that returned.

use Rattle.std.proofs.Common.{ℕ, zero, suc, true, List, [], ◌≡◌, ◌+◌, ◌-◌, ◌<◌, ◌≤◌, length, map, take, slice_get, Some, None, refl, sym, ap, ◌∙◌, subst, arith}
use Rattle.std.proofs.lemmas.List.{length-map}
use Rattle.std.specs.List.{Contains}
use Rattle.onll_words.specs.declared.line.OpRow.{OpRow}
use Rattle.onll_model.specs.declared.node.Node.{Node}
use Rattle.onll_model.specs.declared.call.Call.{Call}
use Rattle.onll_model.specs.declared.call.Call.TheVariants.{Update}
use Rattle.onll_model.specs.declared.call.CallEnd.TheVariants.{Answered}
use Rattle.onll_model.specs.Calls.{updates_in}
use Rattle.onll_model.specs.Legal.{IsLegal, placed_updates, placed_rows}
use Rattle.onll_model.specs.Object.{Behaviour}
use Rattle.onll_model.specs.Recovered.{operations_front}
use Rattle.onll_model.specs.Trace.{node_at, reply_after, IsNumbered}
use Rattle.onll_model.proofs.Lists.{same_some, some_not_none}
use Rattle.onll_model.proofs.Listed.{row_listed, placed_at}
use Rattle.onll_core.specs.declared.returned.Returned.{Returned}
use Rattle.onll_core.specs.Core.{CoreThread, CoreState}
use Rattle.onll_core.specs.Crash.{HoldsUpdate, HoldsCall, HoldAllReturned}
use Rattle.onll_core.specs.Outcomes.{ends_of, script_of, current_of}
use Rattle.onll_detect.specs.declared.outcome.Outcome.{Outcome}
use Rattle.onll_detect.specs.declared.outcome.Outcome.TheVariants.{Took, Lost}
use Rattle.onll_detect.specs.Outcomes.{table_of, find_in, IsOutcome, IsTraceOf}
use Rattle.onll_detect.proofs.Tables.{found}
use Rattle.onll_text.specs.Lines.{call_line}
use Rattle.onll_text.specs.Wording.{Wording}
use Rattle.onll_recovery.specs.DetectJob.{update_lines, scripts_lines, update_rows, stranger_to, is_in_script}
use Rattle.onll_jobs.proofs.DetectedNodes.{get_map, get_there, get_taken, all_at, one_of, thread_at, placed_nth, placed_row, update_line_at, script_line_at, no_stranger, in_script}

-- A core whose history is legal from no node on, and a front of its trace, of operations, that holds every returned call.
pub record IsKept {State Op Query Reply : Type 0} (b : Behaviour State Op Query Reply) (s : State) (c : CoreState State Op Query Reply) (nodes : List Node) : Type 0 where
  pub legal : IsLegal b s [] (map script_of c.threads) c.trace (map ends_of c.threads)
  pub few : length c.threads ≤ 16
  pub initial : c.initial ≡ s
  pub long : ℕ
  pub front : nodes ≡ take long c.trace
  pub numbered : IsNumbered nodes
  pub operations : operations_front b nodes ≡ nodes
  pub calls : HoldAllReturned b c nodes

module _ {State Op Query Reply : Type 0} (b : Behaviour State Op Query Reply) (s : State) (c : CoreState State Op Query Reply) (nodes : List Node) (kept : IsKept b s c nodes) where
  -- a node of the front is one of the trace
  of_trace : (i : ℕ) (n : Node) → slice_get nodes i ≡ Some n → slice_get c.trace i ≡ Some n
  of_trace i n e = get_taken kept.long c.trace i n (ap (λ ns. slice_get ns i) (sym kept.front) ∙ e)

  of_thread : (i : ℕ) (n : Node) → slice_get nodes i ≡ Some n → n.thread < length c.threads
  of_thread i n e =
      let less = one_of (λ (x : Node). x.thread < length (map script_of c.threads)) c.trace i n kept.legal.threads (of_trace i n e) in
      subst (λ (k : ℕ). n.thread < k) (length-map c.threads script_of) less

  of_front : IsTraceOf b nodes
  of_front = record {
    numbered = kept.numbered;
    threads = all_at (λ (n : Node). n.thread < 16) nodes (λ i n e. let less = of_thread i n e in let few = kept.few in omega arith);
    operations = kept.operations;
  }

  module _ (t : ℕ) (th : CoreThread State Op Query Reply) (at : slice_get c.threads t ≡ Some th) where
    -- its updates that have a place are its nodes
    own_places : placed_updates b th.script (ends_of th) ≡ placed_rows t 0 c.trace
    own_places =
        let none : 0 + t ≡ t = omega arith in
        (thread_at b s 0 c.trace 0 (map script_of c.threads) (map ends_of c.threads) t th.script (ends_of th) kept.legal.outcomes
        (get_map script_of c.threads t th at) (get_map ends_of c.threads t th at)).places
        ∙ ap (λ (k : ℕ). placed_rows k 0 c.trace) none

    -- what is found of a returned update is its reply and its place
    module _ (i : ℕ) (op : Op) (r : Returned State Op Query Reply) (call : slice_get th.script i ≡ Some (Update op)) (is : slice_get th.returned i ≡ Some r) where
      abbrev count : ℕ
      count = updates_in (take i th.script)

      here : slice_get (placed_rows t 0 c.trace) count ≡ Some (b.row_of op, r.place)
      here = sym (ap (λ xs. slice_get xs count) own_places) ∙ placed_nth b th.script th.returned _ i op r call is

      holds : HoldsUpdate b c.initial t nodes op r
      holds =
          let held = kept.calls t th at i r is in
          let same : held.0 ≡ Update op = same_some held.0 (Update op) (sym held.1 ∙ call) in
          subst (λ (x : Call State Op Query Reply). HoldsCall b c.initial t nodes x r) same held.2

      by : (o : Outcome Reply) → find_in (table_of b s nodes) t (suc count) ≡ o → IsOutcome b s nodes t (suc count) o
          → find_in (table_of b s nodes) t (suc count) ≡ Took r.place r.reply
      by Lost e h =
          let placed = placed_at t [] c.trace kept.legal.numbered count r.place (b.row_of op) here in
          let none : 0 + placed.index ≡ placed.index = omega arith in
          let first : suc (0 + count) ≡ suc count = omega arith in
          let place : r.place ≡ suc placed.index = placed.place ∙ ap suc none in
          let stands : slice_get nodes placed.index ≡ Some holds.node = sym (ap (node_at nodes) place) ∙ holds.here in
          let same : placed.node ≡ holds.node = same_some placed.node holds.node (sym placed.here ∙ of_trace placed.index holds.node stands) in
          absurd (h r.place holds.node holds.here holds.own (ap (λ (n : Node). n.number) (sym same) ∙ placed.number ∙ first))
      by (Took zero reply) e h = some_not_none h.node (sym h.here)
      by (Took (suc q) reply) e h =
          let l = row_listed t [] c.trace kept.legal.numbered q h.node (of_trace q h.node h.here) h.thread in
          let index : l.at ≡ count = omega (arith, l.number, h.number_is) in
          let none : 0 + q ≡ q = omega arith in
          let listed : slice_get (placed_rows t 0 c.trace) l.at ≡ Some (h.node.row, suc q) = l.here ∙ ap (λ (k : ℕ). Some (h.node.row, suc k)) none in
          let pair = same_some (h.node.row, suc q) (b.row_of op, r.place) (sym listed ∙ ap (slice_get (placed_rows t 0 c.trace)) index ∙ here) in
          let place : suc q ≡ r.place = ap (λ (z : OpRow × ℕ). z.1) pair in
          let row : h.node.row ≡ b.row_of op = ap (λ (z : OpRow × ℕ). z.0) pair in
          let op_is : h.op ≡ op = same_some h.op op (sym h.row ∙ ap b.op_at row ∙ b.op_of_its_row op) in
          let said : reply ≡ r.reply = h.reply_is
          ∙ ap (λ (k : ℕ). reply_after b s (take (k - 1) nodes) h.op) place
          ∙ ap (reply_after b s (take (r.place - 1) nodes)) op_is
          ∙ ap (λ (x : State). reply_after b x (take (r.place - 1) nodes) op) (sym kept.initial)
          ∙ sym holds.reply_is in
          e ∙ ap (λ (k : ℕ). Took k reply) place ∙ ap (Took r.place) said

      pub returned_found : find_in (table_of b s nodes) t (suc count) ≡ Took r.place r.reply
      returned_found = by (find_in (table_of b s nodes) t (suc count)) refl (found b s nodes of_front t (suc count))

      -- and its line is printed
      pub returned_told : (w : Wording State Op Query Reply) → Contains (scripts_lines w (table_of b s nodes) 0 (map script_of c.threads))
          (call_line w t (i + 1) (let x : Call State Op Query Reply = Update op in x) (Answered r.reply r.place))
      returned_told w =
          let table = table_of b s nodes in
          let none : 0 + i + 1 ≡ i + 1 = omega arith in
          let thread : t ≡ 0 + t = omega arith in
          let first : suc (0 + count) ≡ suc count = omega arith in
          let line : Contains (update_lines w table t 0 0 th.script) (call_line w t (0 + i + 1) (let x : Call State Op Query Reply = Update op in x) (Answered r.reply r.place)) =
          update_line_at w table t 0 0 th.script i op r.place r.reply call (ap (find_in table t) first ∙ returned_found) in
          script_line_at w table 0 (map script_of c.threads) t th.script _ (get_map script_of c.threads t th at)
          (subst (λ (k : ℕ). Contains (update_lines w table k 0 0 th.script) (call_line w t (i + 1) (let x : Call State Op Query Reply = Update op in x) (Answered r.reply r.place))) thread
          (subst (λ (k : ℕ). Contains (update_lines w table t 0 0 th.script) (call_line w t k (let x : Call State Op Query Reply = Update op in x) (Answered r.reply r.place))) none line))

  -- each node is the update of its number in its thread's script
  known : (i : ℕ) (n : Node) → slice_get nodes i ≡ Some n → is_in_script (map (update_rows b) (map script_of c.threads)) n ≡ true
  known i n e =
      let there = get_there c.threads n.thread (of_thread i n e) in
      let th = there.0 in
      let l = row_listed n.thread [] c.trace kept.legal.numbered i n (of_trace i n e) refl in
      let row = placed_row b th.script th.returned (current_of th) l.at n.row (suc (0 + i)) (ap (λ xs. slice_get xs l.at) (own_places n.thread th there.1) ∙ l.here) in
      let number : suc (0 + l.at) ≡ suc l.at = omega arith in
      in_script (map (update_rows b) (map script_of c.threads)) n (update_rows b th.script) l.at
      (get_map (update_rows b) (map script_of c.threads) n.thread th.script (get_map script_of c.threads n.thread th there.1)) (l.number ∙ number) row

  pub none_strange : stranger_to b (map script_of c.threads) nodes ≡ None
  none_strange = no_stranger (map (update_rows b) (map script_of c.threads)) 0 nodes
      (all_at (λ (n : Node). is_in_script (map (update_rows b) (map script_of c.threads)) n ≡ true) nodes known)
