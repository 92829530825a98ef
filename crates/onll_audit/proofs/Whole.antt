use Rattle.std.proofs.Common.{ℕ, zero, suc, Bool, true, false, List, [], ◌∷◌, ◌++◌, ◌≡◌, ◌+◌, ◌<◌, ◌↔◌, length, map, cond, slice_get, Option, Some, None, refl, ap, sym, ◌∙◌, subst, arith}
use Rattle.std.specs.List.{AllByRecursion, flat_map}
use Rattle.std.specs.Option.{option_or, option_map}
use Rattle.std.specs.Str.{bytes_eq}
use Rattle.std.proofs.lemmas.Slice.Eq.{bytes_eq-Decides}
use Rattle.std.proofs.lemmas.Option.{same_Some}
use Rattle.onll_words.specs.declared.line.OpRow.{OpRow}
use Rattle.onll_words.specs.Texts.{joined, line_text}
use Rattle.onll_model.specs.declared.node.Node.{Node}
use Rattle.onll_model.specs.declared.call.Call.{Call}
use Rattle.onll_model.specs.declared.call.Call.TheVariants.{Update, Ask}
use Rattle.onll_model.specs.declared.call.CallEnd.{CallEnd}
use Rattle.onll_model.specs.declared.call.CallEnd.TheVariants as ends
use Rattle.onll_model.specs.Object.{Behaviour}
use Rattle.onll_model.specs.Trace.{state_after}
use Rattle.onll_model.specs.Legal.{HasReply, IsLegalThread, AreLegalThreads, IsOver, OverButLast, placed_updates, placed_rows}
use Rattle.onll_text.specs.Wording.{Wording}
use Rattle.onll_text.specs.Lines.{end_words}
use Rattle.onll_audit.specs.declared.said.Said.{Said}
use Rattle.onll_audit.specs.declared.said.Said.TheVariants as said
use Rattle.onll_audit.specs.declared.verdict.Why.{Why}
use Rattle.onll_audit.specs.declared.verdict.Why.TheVariants as whys
use Rattle.onll_audit.specs.Form.{ReportForm}
use Rattle.onll_audit.specs.Verdict.{no_past, place_of, thread_places, call_front, row_said, rows_said, all_rows, thread_wrong, calls_wrong, nodes_wrong, total_lines, state_wrong, wrong_in}
use Rattle.onll_audit.specs.Legality.{SameOutcome, SaysCalls, SaysGroups, IsLegalForm}
use Rattle.onll_audit.proofs.Following.{each_map, After, Begin, Follow}
use Rattle.onll_audit.proofs.Reading.{line_parts}
use Rattle.onll_audit.proofs.Threads.{end_is, none_wrong, legal_right}
use Rattle.onll_audit.proofs.Tracing.{row_of, BeginRows, same_placed, begin_same, none_numbered, none_threads, none_rows, nodes_right}

none_of : {A : Type 0} (x y : Option A) → option_or x y ≡ None → (x ≡ None) × (y ≡ None)
none_of None y e = (refl, e)
none_of (Some a) y e = cc e

none_both : {A : Type 0} (x y : Option A) → x ≡ None → y ≡ None → option_or x y ≡ None
none_both None y g h = h
none_both (Some a) y g h = cc g

module _ {State Op Query Reply : Type 0} (b : Behaviour State Op Query Reply) (w : Wording State Op Query Reply) where
  -- ---- rows
  row_same : (c : Call State Op Query Reply) (x : Said) (e : CallEnd State Op Query Reply) → SameOutcome x e
      → row_said b c (Some x) ≡ map row_of (placed_updates b (c ∷ []) (e ∷ []))
  row_same (Update op) (said.Answered q) (ends.Answered reply p) h = refl
  row_same (Update op) (said.FenceFailed q) (ends.FenceFailed p) h = refl
  row_same (Update op) (said.Broken q) (ends.Broken p) h = refl
  row_same (Ask query) x e h = refl
  row_same (Update op) (said.Answered q) ends.Running h = elim h [ ]
  row_same (Update op) (said.Answered q) (ends.Ordered p) h = elim h [ ]
  row_same (Update op) (said.Answered q) (ends.FenceFailed p) h = elim h [ ]
  row_same (Update op) (said.Answered q) (ends.Broken p) h = elim h [ ]
  row_same (Update op) (said.FenceFailed q) (ends.Answered reply p) h = elim h [ ]
  row_same (Update op) (said.FenceFailed q) ends.Running h = elim h [ ]
  row_same (Update op) (said.FenceFailed q) (ends.Ordered p) h = elim h [ ]
  row_same (Update op) (said.FenceFailed q) (ends.Broken p) h = elim h [ ]
  row_same (Update op) (said.Broken q) (ends.Answered reply p) h = elim h [ ]
  row_same (Update op) (said.Broken q) ends.Running h = elim h [ ]
  row_same (Update op) (said.Broken q) (ends.Ordered p) h = elim h [ ]
  row_same (Update op) (said.Broken q) (ends.FenceFailed p) h = elim h [ ]

  rows_more : (c : Call State Op Query Reply) (e : CallEnd State Op Query Reply) (script : List (Call State Op Query Reply)) (outcomes : List (CallEnd State Op Query Reply))
      → map row_of (placed_updates b (c ∷ []) (e ∷ [])) ++ map row_of (placed_updates b script outcomes) ≡ map row_of (placed_updates b (c ∷ script) (e ∷ outcomes))
  rows_more (Update op) (ends.Answered reply p) script outcomes = refl
  rows_more (Update op) ends.Running script outcomes = refl
  rows_more (Update op) (ends.Ordered p) script outcomes = refl
  rows_more (Update op) (ends.FenceFailed p) script outcomes = refl
  rows_more (Update op) (ends.Broken p) script outcomes = refl
  rows_more (Ask query) e script outcomes = refl

  no_rows : (script : List (Call State Op Query Reply)) → [] ≡ map row_of (placed_updates b script [])
  no_rows [] = refl
  no_rows (c ∷ script) = refl

  rows_are : (s : State) (nodes : List Node) (t k : ℕ) (script : List (Call State Op Query Reply)) (lines : List (List ℕ)) (outcomes : List (CallEnd State Op Query Reply))
      → SaysCalls w t k script lines outcomes → rows_said b w t k script lines ≡ map row_of (placed_updates b script outcomes)
  rows_are s nodes t k [] [] [] h = refl
  rows_are s nodes t k (c ∷ script) [] [] h = refl
  rows_are s nodes t k [] (l ∷ lines) outcomes h = elim h [ ]
  rows_are s nodes t k [] [] (e ∷ outcomes) h = elim h [ ]
  rows_are s nodes t k (c ∷ script) [] (e ∷ outcomes) h = elim h [ ]
  rows_are s nodes t k (c ∷ script) (l ∷ lines) [] h = elim h [ ]
  rows_are s nodes t k (c ∷ script) (l ∷ lines) (e ∷ outcomes) h =
      let one = h.0 in
      let end = end_is b w s nodes (call_front w t (k + 1) c) l (joined (end_words w e)) one.outcome (one.line_is ∙ line_parts w t (k + 1) c e) one.read in
      ap (λ (o : Option (List ℕ × Said)). row_said b c (option_map (λ (r : List ℕ × Said). r.1) o) ++ rows_said b w t (k + 1) script lines) end
      ∙ ap (λ (rs : List OpRow). rs ++ rows_said b w t (k + 1) script lines) (row_same c one.outcome e one.same)
      ∙ ap (λ (rs : List OpRow). map row_of (placed_updates b (c ∷ []) (e ∷ [])) ++ rs) (rows_are s nodes t (k + 1) script lines outcomes h.1)
      ∙ rows_more c e script outcomes

  -- ---- each call is over
  is_over : (x : Said) (e : CallEnd State Op Query Reply) → SameOutcome x e → IsOver e
  is_over (said.Answered q) (ends.Answered reply p) h = tt
  is_over (said.FenceFailed q) (ends.FenceFailed p) h = tt
  is_over (said.Broken q) (ends.Broken p) h = tt
  is_over (said.Answered q) ends.Running h = elim h [ ]
  is_over (said.Answered q) (ends.Ordered p) h = elim h [ ]
  is_over (said.Answered q) (ends.FenceFailed p) h = elim h [ ]
  is_over (said.Answered q) (ends.Broken p) h = elim h [ ]
  is_over (said.FenceFailed q) (ends.Answered reply p) h = elim h [ ]
  is_over (said.FenceFailed q) ends.Running h = elim h [ ]
  is_over (said.FenceFailed q) (ends.Ordered p) h = elim h [ ]
  is_over (said.FenceFailed q) (ends.Broken p) h = elim h [ ]
  is_over (said.Broken q) (ends.Answered reply p) h = elim h [ ]
  is_over (said.Broken q) ends.Running h = elim h [ ]
  is_over (said.Broken q) (ends.Ordered p) h = elim h [ ]
  is_over (said.Broken q) (ends.FenceFailed p) h = elim h [ ]

  over : (t k : ℕ) (script : List (Call State Op Query Reply)) (lines : List (List ℕ)) (outcomes : List (CallEnd State Op Query Reply))
      → SaysCalls w t k script lines outcomes → OverButLast outcomes
  over t k script lines [] h = tt
  over t k script lines (e ∷ []) h = tt
  over t k [] [] (e ∷ f ∷ outcomes) h = elim h [ ]
  over t k (c ∷ script) [] (e ∷ f ∷ outcomes) h = elim h [ ]
  over t k [] (l ∷ lines) (e ∷ f ∷ outcomes) h = elim h [ ]
  over t k (c ∷ script) (l ∷ lines) (e ∷ f ∷ outcomes) h = (is_over h.0.outcome e h.0.same, over t (k + 1) script lines (f ∷ outcomes) h.1)

  module _ (s : State) (nodes : List Node) where
    -- ---- nothing wrong: legal
    threads_in : (t n : ℕ) (scripts : List (List (Call State Op Query Reply))) (groups : List (List (List ℕ))) → length groups ≡ length scripts
        → calls_wrong b w s nodes t n scripts groups ≡ None
        → ((i : ℕ) (own : List OpRow) → slice_get (all_rows b w t scripts groups) i ≡ Some own → BeginRows (map row_of (placed_rows (t + i) 0 nodes)) own)
        → (outcomes : List (List (CallEnd State Op Query Reply))) × SaysGroups w t scripts groups outcomes × AreLegalThreads b s 0 nodes t scripts outcomes
    threads_in t n [] [] many e rows = ([], tt, tt)
    threads_in t n [] (lines ∷ groups) many e rows = absurd (omega arith)
    threads_in t n (script ∷ scripts) [] many e rows = absurd (omega arith)
    threads_in t n (script ∷ scripts) (lines ∷ groups) many e rows =
        let parts = none_of (thread_wrong b w s nodes t (thread_places t nodes) n no_past script lines) _ e in
        let one = none_wrong b w s nodes t (thread_places t nodes) n no_past script lines parts.0 in
        let rest = threads_in (t + 1) (n + length lines) scripts groups (omega arith) parts.1
        (λ i own at. let up : t + suc i ≡ t + 1 + i = omega arith in
        subst (λ (k : ℕ). BeginRows (map row_of (placed_rows k 0 nodes)) own) up (rows (suc i) own at)) in
        let none : t + 0 ≡ t = omega arith in
        let mine = subst (λ (k : ℕ). BeginRows (map row_of (placed_rows k 0 nodes)) (rows_said b w t 0 script lines)) none (rows 0 (rows_said b w t 0 script lines) refl) in
        let said_rows = subst (λ (rs : List OpRow). BeginRows (map row_of (placed_rows t 0 nodes)) rs) (rows_are s nodes t 0 script lines one.0 one.1) mine in (
          one.0 ∷ rest.0,
          (one.1, rest.1),
          (
            record {
              places = same_placed (placed_updates b script one.0) (placed_rows t 0 nodes) said_rows one.2.placed;
              replies = one.2.replies;
              answers = one.2.answers;
              reads_in_order = one.2.in_order;
              broken = one.2.broken;
              over = over t 0 script lines one.0 one.1;
            },
            rest.2,
          ),
        )

    length_rows : (t : ℕ) (scripts : List (List (Call State Op Query Reply))) (groups : List (List (List ℕ))) → length groups ≡ length scripts
        → length (all_rows b w t scripts groups) ≡ length scripts
    length_rows t [] groups e = refl
    length_rows t (script ∷ scripts) [] e = absurd (omega arith)
    length_rows t (script ∷ scripts) (lines ∷ groups) e = omega (arith, length_rows (t + 1) scripts groups (omega arith))

    -- ---- legal: nothing wrong
    first_after : (c : Call State Op Query Reply) (e : CallEnd State Op Query Reply) → After 0 None c e
    first_after (Ask query) (ends.Answered reply p) = omega arith
    first_after (Ask query) ends.Running = tt
    first_after (Ask query) (ends.Ordered p) = tt
    first_after (Ask query) (ends.FenceFailed p) = tt
    first_after (Ask query) (ends.Broken p) = tt
    first_after (Update op) (ends.Answered reply p) = refl
    first_after (Update op) ends.Running = tt
    first_after (Update op) (ends.Ordered p) = refl
    first_after (Update op) (ends.FenceFailed p) = refl
    first_after (Update op) (ends.Broken p) = tt

    follows : (t : ℕ) (script : List (Call State Op Query Reply)) (outcomes : List (CallEnd State Op Query Reply)) → IsLegalThread b s 0 nodes t script outcomes
        → Follow b s nodes 0 None None (thread_places t nodes) script outcomes
    follows t script outcomes h = record {
      replies = h.replies;
      answers = h.answers;
      after = each_map (HasReply b s nodes) (After 0 None) (λ c e _. first_after c e) script outcomes h.replies;
      in_order = h.reads_in_order;
      broken = h.broken;
      placed = subst (λ (rs : List (OpRow × ℕ)). Begin (map place_of (placed_updates b script outcomes)) (map place_of rs)) h.places
          (begin_same (map place_of (placed_updates b script outcomes)));
    }

    threads_right : (t n : ℕ) (scripts : List (List (Call State Op Query Reply))) (groups : List (List (List ℕ)))
        (outcomes : List (List (CallEnd State Op Query Reply))) → SaysGroups w t scripts groups outcomes → AreLegalThreads b s 0 nodes t scripts outcomes
        → calls_wrong b w s nodes t n scripts groups ≡ None
    threads_right t n [] groups outcomes says legal = refl
    threads_right t n (script ∷ scripts) [] outcomes says legal = refl
    threads_right t n (script ∷ scripts) (lines ∷ groups) [] says legal = elim says [ ]
    threads_right t n (script ∷ scripts) (lines ∷ groups) (one ∷ outcomes) says legal =
        none_both (thread_wrong b w s nodes t (thread_places t nodes) n no_past script lines) _
        (legal_right b w s nodes t (thread_places t nodes) n no_past script lines one says.0 (follows t script one legal.0))
        (threads_right (t + 1) (n + length lines) scripts groups outcomes says.1 legal.1)

    rows_right : (t : ℕ) (scripts : List (List (Call State Op Query Reply))) (groups : List (List (List ℕ)))
        (outcomes : List (List (CallEnd State Op Query Reply))) → SaysGroups w t scripts groups outcomes → AreLegalThreads b s 0 nodes t scripts outcomes
        → (i : ℕ) (own : List OpRow) → slice_get (all_rows b w t scripts groups) i ≡ Some own → own ≡ map row_of (placed_rows (t + i) 0 nodes)
    rows_right t [] groups outcomes says legal i own e = cc e
    rows_right t (script ∷ scripts) [] outcomes says legal i own e = cc e
    rows_right t (script ∷ scripts) (lines ∷ groups) [] says legal i own e = elim says [ ]
    rows_right t (script ∷ scripts) (lines ∷ groups) (one ∷ outcomes) says legal zero own e =
        let none : t ≡ t + 0 = omega arith in
        sym (same_Some (rows_said b w t 0 script lines) own e) ∙ rows_are s nodes t 0 script lines one says.0 ∙ ap (map row_of) legal.0.places
        ∙ ap (λ (k : ℕ). map row_of (placed_rows k 0 nodes)) none
    rows_right t (script ∷ scripts) (lines ∷ groups) (one ∷ outcomes) says legal (suc i) own e =
        let up : t + 1 + i ≡ t + suc i = omega arith in
        rows_right (t + 1) scripts groups outcomes says.1 legal.1 i own e ∙ ap (λ (k : ℕ). map row_of (placed_rows k 0 nodes)) up

  state_is : (s : State) (n : ℕ) (text : List ℕ) → state_wrong w s n text ≡ None → text ≡ flat_map line_text (w.state_lines s)
  state_is s n text e = by_test (bytes_eq text (flat_map line_text (w.state_lines s))) refl e
    where
      by_test : (same : Bool) → bytes_eq text (flat_map line_text (w.state_lines s)) ≡ same → cond {A = Option (ℕ × Why)} same None (Some (n, whys.State)) ≡ None
          → text ≡ flat_map line_text (w.state_lines s)
      by_test true g h = (bytes_eq-Decides text (flat_map line_text (w.state_lines s))).0 g
      by_test false g h = cc h

  state_right : (s : State) (n : ℕ) (text : List ℕ) → text ≡ flat_map line_text (w.state_lines s) → state_wrong w s n text ≡ None
  state_right s n text e =
      ap (λ (same : Bool). cond {A = Option (ℕ × Why)} same None (Some (n, whys.State))) ((bytes_eq-Decides text (flat_map line_text (w.state_lines s))).1 e)

  legal_from : (s : State) (scripts : List (List (Call State Op Query Reply))) (f : ReportForm) → length f.calls ≡ length scripts
      → wrong_in b w s scripts f ≡ None → IsLegalForm b w s scripts f
  legal_from s scripts f many e =
      let rows = all_rows b w 0 scripts f.calls in
      let parts = none_of (calls_wrong b w s f.nodes 0 1 scripts f.calls) _ e in
      let more = none_of (nodes_wrong rows (total_lines f.calls + 2) [] f.nodes) _ parts.1 in
      let threads = threads_in s f.nodes 0 1 scripts f.calls many parts.0
      (λ i own at. let zero_more : i ≡ 0 + i = omega arith in
      subst (λ (k : ℕ). BeginRows (map row_of (placed_rows k 0 f.nodes)) own) zero_more (none_rows rows (total_lines f.calls + 2) 0 [] f.nodes more.0 i own at)) in
      record {
        ends = threads.0;
        says = threads.1;
        legal = record {
          begins = refl;
          numbered = none_numbered rows (total_lines f.calls + 2) [] f.nodes more.0;
          threads = subst (λ (k : ℕ). AllByRecursion (λ (m : Node). m.thread < k) f.nodes) (length_rows s f.nodes 0 scripts f.calls many)
              (none_threads rows (total_lines f.calls + 2) [] f.nodes more.0);
          outcomes = threads.2;
        };
        state = state_is (state_after b s f.nodes) f.state_line f.state more.1;
      }

  right_from : (s : State) (scripts : List (List (Call State Op Query Reply))) (f : ReportForm) → length f.calls ≡ length scripts
      → IsLegalForm b w s scripts f → wrong_in b w s scripts f ≡ None
  right_from s scripts f many h =
      let rows = all_rows b w 0 scripts f.calls in
      none_both (calls_wrong b w s f.nodes 0 1 scripts f.calls) _ (threads_right s f.nodes 0 1 scripts f.calls h.ends h.says h.legal.outcomes)
      (none_both (nodes_wrong rows (total_lines f.calls + 2) [] f.nodes) _
      (nodes_right rows (total_lines f.calls + 2) 0 [] f.nodes h.legal.numbered
      (subst (λ (k : ℕ). AllByRecursion (λ (m : Node). m.thread < k) f.nodes) (sym (length_rows s f.nodes 0 scripts f.calls many)) h.legal.threads)
      (λ t own at. let none : 0 + t ≡ t = omega arith in
      rows_right s f.nodes 0 scripts f.calls h.ends h.says h.legal.outcomes t own at ∙ ap (λ (k : ℕ). map row_of (placed_rows k 0 f.nodes)) none))
      (state_right (state_after b s f.nodes) f.state_line f.state h.state))

  -- no line is wrong exactly where what the report says is legal
  pub legal_law : (s : State) (scripts : List (List (Call State Op Query Reply))) (f : ReportForm) → length f.calls ≡ length scripts
      → (wrong_in b w s scripts f ≡ None) ↔ IsLegalForm b w s scripts f
  legal_law s scripts f many = (legal_from s scripts f many, right_from s scripts f many)
