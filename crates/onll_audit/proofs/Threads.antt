use Rattle.std.proofs.Common.{ℕ, zero, suc, Bool, true, false, List, [], ◌∷◌, ◌++◌, ◌≡◌, ◌+◌, ◌&&◌, nat_le, max, length, take, drop, slice_get, Option, Some, None, Result, Ok, Err, refl, ap, sym, ◌∙◌, subst, arith, codes}
use Rattle.std.proofs.Math.Seq.{take-append_seam, drop-append_seam}
use Rattle.std.proofs.lemmas.Slice.Eq.{bytes_eq-Decides}
use Rattle.std.proofs.lemmas.Option.{same_Some}
use Rattle.onll_words.specs.Texts.{joined}
use Rattle.onll_model.specs.declared.node.Node.{Node}
use Rattle.onll_model.specs.declared.call.Call.{Call}
use Rattle.onll_model.specs.declared.call.Call.TheVariants.{Update, Ask}
use Rattle.onll_model.specs.declared.call.CallEnd.{CallEnd}
use Rattle.onll_model.specs.declared.call.CallEnd.TheVariants as ends
use Rattle.onll_model.specs.Object.{Behaviour}
use Rattle.onll_model.specs.Legal.{BrokenAfterFailure, EachEnd, InOrder}
use Rattle.onll_text.specs.Wording.{Wording}
use Rattle.onll_text.specs.Lines.{at_words, end_words}
use Rattle.onll_audit.specs.declared.past.Past.{Past}
use Rattle.onll_audit.specs.declared.said.Said.{Said}
use Rattle.onll_audit.specs.declared.said.Said.TheVariants as said
use Rattle.onll_audit.specs.declared.verdict.Why.{Why}
use Rattle.onll_audit.specs.declared.verdict.Why.TheVariants as whys
use Rattle.onll_audit.specs.Form.{said_of}
use Rattle.onll_audit.specs.Verdict.{next_past, higher, is_above, is_that_place, update_place, update_outcome, outcome_right, place_right, reply_at, end_at, reply_right, right_if, on_judged, judge_end, judge, end_of_call, end_after, with_text, call_front, thread_wrong}
use Rattle.onll_audit.specs.Legality.{SameOutcome, SaysCall, SaysCalls}
use Rattle.onll_audit.specs.Fields.{◌>?◌, some_if, after_text}
use Rattle.onll_audit.proofs.Following.{both, le_fact, le_test, eq_fact, eq_test, each_both, update_join, read_join, place_is, drop_get, answered_more, failed_more, broken_more, read_more, Follow, Begin, After}
use Rattle.onll_audit.proofs.Reading.{failed_text, broken_text, line_parts, end_after_is}

-- where nothing is wrong the line says something, and nothing after it is wrong
judged_ok : (n : ℕ) (r : Result Said Why) (rest : Said → Option (ℕ × Why)) → on_judged n r rest ≡ None → (x : Said) × (r ≡ Ok x) × (rest x ≡ None)
judged_ok n (Err why) rest e = cc e
judged_ok n (Ok x) rest e = (x, refl, e)

right_ok : (test : Bool) (why : Why) (rest : Result Said Why) (x : Said) → right_if test why rest ≡ Ok x → (test ≡ true) × (rest ≡ Ok x)
right_ok true why rest x e = (refl, e)
right_ok false why rest x e = cc e

-- the outcome, the place and the reply of a right line
record IsRight {State Op Query Reply : Type 0} (b : Behaviour State Op Query Reply) (w : Wording State Op Query Reply) (s : State) (nodes : List Node)
    (places : List ℕ) (past : Past) (c : Call State Op Query Reply) (o : Option (List ℕ × Said)) (x : Said) : Type 0 where
  text : List ℕ
  end : o ≡ Some (text, x)
  outcome : outcome_right past c x ≡ true
  place : place_right places (length nodes) past c x ≡ true
  reply : reply_right b w s nodes c x text ≡ true

module _ {State Op Query Reply : Type 0} (b : Behaviour State Op Query Reply) (w : Wording State Op Query Reply) (s : State) (nodes : List Node) where
  right_line : (places : List ℕ) (past : Past) (c : Call State Op Query Reply) (o : Option (List ℕ × Said)) (x : Said)
      → judge_end b w s nodes places past c o ≡ Ok x → IsRight b w s nodes places past c o x
  right_line places past c None x e = cc e
  right_line places past c (Some r) x e =
      let one = right_ok (outcome_right past c r.1) whys.Outcome _ x e in
      let two = right_ok (place_right places (length nodes) past c r.1) whys.Place _ x one.1 in
      let three = right_ok (reply_right b w s nodes c r.1 r.0) whys.Reply (Ok r.1) x two.1 in
      let same : r.1 ≡ x = ok_same r.1 x (Ok r.1) refl three.1 in
      record {
        text = r.0;
        end = ap (λ (y : Said). Some (r.0, y)) same;
        outcome = ap (outcome_right past c) (sym same) ∙ one.0;
        place = ap (place_right places (length nodes) past c) (sym same) ∙ two.0;
        reply = ap (λ (y : Said). reply_right b w s nodes c y r.0) (sym same) ∙ three.0;
      }
    where
      ok_same : (y z : Said) (r : Result Said Why) → r ≡ Ok y → r ≡ Ok z → y ≡ z
      ok_same y z r g h = cc

  -- the text of a right line is that of the outcome with the object's reply
  right_text : (c : Call State Op Query Reply) (x : Said) (text : List ℕ) → said_of text ≡ Some x → reply_right b w s nodes c x text ≡ true
      → text ≡ joined (end_words w (end_at b w s nodes c x))
  right_text c (said.Answered p) text r h = sym ((bytes_eq-Decides (joined (w.reply_words (reply_at b w s nodes c p) ++ at_words p)) text).0 h)
  right_text c (said.FenceFailed p) text r h = failed_text w text p r
  right_text c (said.Broken p) text r h = broken_text w text p r

  same_outcome : (c : Call State Op Query Reply) (x : Said) → SameOutcome x (end_at b w s nodes c x)
  same_outcome c (said.Answered p) = refl
  same_outcome c (said.FenceFailed p) = refl
  same_outcome c (said.Broken p) = refl

  says : (t k : ℕ) (c : Call State Op Query Reply) (x : Said) (line text : List ℕ) → end_of_call w t k c line ≡ Some (text, x) → reply_right b w s nodes c x text ≡ true
      → SaysCall w t k c line (end_at b w s nodes c x)
  says t k c x line text e h =
      let parts = end_after_is w (call_front w t k c) line text x e in
      let is = right_text c x text parts.1 h in
      record {
        line_is = parts.0 ∙ ap (λ (r : List ℕ). call_front w t k c ++ 32 ∷ r) is ∙ sym (line_parts w t k c (end_at b w s nodes c x));
        outcome = x;
        read = ap said_of (sym is) ∙ parts.1;
        same = same_outcome c x;
      }

  next_calls : (past : Past) (c : Call State Op Query Reply) (x : Said) → (next_past past c x).calls ≡ past.calls + 1
  next_calls past (Update op) (said.Answered p) = refl
  next_calls past (Update op) (said.FenceFailed p) = refl
  next_calls past (Update op) (said.Broken p) = refl
  next_calls past (Ask query) (said.Answered p) = refl
  next_calls past (Ask query) (said.FenceFailed p) = refl
  next_calls past (Ask query) (said.Broken p) = refl

  -- an update with a place, by the places of its thread's nodes
  placed_update : (places : List ℕ) (past : Past) (p : ℕ) → update_place places past p ≡ true
      → (is_above past.read p ≡ true) × (drop past.placed places ≡ p ∷ drop (past.placed + 1) places)
  placed_update places past p h =
      let parts = both (is_that_place p (slice_get places past.placed)) (is_above past.read p) h in
      (parts.1, drop_get places past.placed p (place_is p (slice_get places past.placed) parts.0))

  failed_none : (failed : Option ℕ) (p : ℕ) → update_outcome failed (said.Answered p) ≡ true → failed ≡ None
  failed_none None p h = refl
  failed_none (Some q) p h = cc h

  failed_none' : (failed : Option ℕ) (p : ℕ) → update_outcome failed (said.FenceFailed p) ≡ true → failed ≡ None
  failed_none' None p h = refl
  failed_none' (Some q) p h = cc h

  abbrev Goes : List ℕ → Past → List (Call State Op Query Reply) → List (CallEnd State Op Query Reply) → Type 0
  Goes places past script outcomes = Follow b s nodes past.answered past.read past.failed (drop past.placed places) script outcomes

  -- the outcomes that follow, with that of a right line before them
  goes_on : (places : List ℕ) (past : Past) (c : Call State Op Query Reply) (x : Said) (script : List (Call State Op Query Reply))
      (outcomes : List (CallEnd State Op Query Reply)) → outcome_right past c x ≡ true → place_right places (length nodes) past c x ≡ true
      → Goes places (next_past past c x) script outcomes → Goes places past (c ∷ script) (end_at b w s nodes c x ∷ outcomes)
  goes_on places past (Update op) (said.Answered p) script outcomes g h f =
      let at = placed_update places past p h in
      let P : List ℕ → Type 0 = λ ps. Follow b s nodes past.answered past.read past.failed ps (Update op ∷ script)
      (end_at b w s nodes (Update op) (said.Answered p) ∷ outcomes) in
      subst P (sym at.1) (answered_more b w s nodes past.answered past.read past.failed (drop (past.placed + 1) places) op p script outcomes
      (failed_none past.failed p g) at.0 f)
  goes_on places past (Update op) (said.FenceFailed p) script outcomes g h f =
      let at = placed_update places past p h in
      let P : List ℕ → Type 0 = λ ps. Follow b s nodes past.answered past.read past.failed ps (Update op ∷ script) (ends.FenceFailed p ∷ outcomes) in
      subst P (sym at.1) (failed_more b w s nodes past.answered past.read past.failed (drop (past.placed + 1) places) op p script outcomes
      (failed_none' past.failed p g) at.0 f)
  goes_on places past (Update op) (said.Broken p) script outcomes g h f = by_failed past.failed g f
    where
      by_failed : (failed : Option ℕ) → update_outcome failed (said.Broken p) ≡ true
          → Follow b s nodes past.answered past.read failed (drop past.placed places) script outcomes
          → Follow b s nodes past.answered past.read failed (drop past.placed places) (Update op ∷ script) (ends.Broken p ∷ outcomes)
      by_failed None e k = cc e
      by_failed (Some q) e k = broken_more b w s nodes past.answered past.read (drop past.placed places) op p q script outcomes (eq_fact p q e) k
  goes_on places past (Ask query) (said.Answered p) script outcomes g h f =
      let parts = both (nat_le p (length nodes)) (nat_le past.answered p) h in
      read_more b w s nodes past.answered past.read past.failed (drop past.placed places) query p script outcomes
      (le_fact p (length nodes) parts.0) (le_fact past.answered p parts.1) f
  goes_on places past (Ask query) (said.FenceFailed p) script outcomes g h f = cc g
  goes_on places past (Ask query) (said.Broken p) script outcomes g h f = cc g

  none_left : (places : List ℕ) (past : Past) (script : List (Call State Op Query Reply)) → Goes places past script []
  none_left places past [] = record { replies = tt; answers = tt; after = tt; in_order = tt; broken = tt; placed = tt }
  none_left places past (c ∷ script) = record { replies = tt; answers = tt; after = tt; in_order = tt; broken = tt; placed = tt }

  -- Where no line of a thread is wrong, the lines say outcomes that follow.
  pub none_wrong : (t : ℕ) (places : List ℕ) (n : ℕ) (past : Past) (script : List (Call State Op Query Reply)) (lines : List (List ℕ))
      → thread_wrong b w s nodes t places n past script lines ≡ None
      → (outcomes : List (CallEnd State Op Query Reply)) × SaysCalls w t past.calls script lines outcomes × Goes places past script outcomes
  none_wrong t places n past script [] e = ([], tt, none_left places past script)
  none_wrong t places n past [] (l ∷ lines) e = cc e
  none_wrong t places n past (c ∷ script) (l ∷ lines) e =
      let j = judged_ok n (judge b w s nodes t places past c l) (λ x. thread_wrong b w s nodes t places (n + 1) (next_past past c x) script lines) e in
      let x = j.0 in
      let right = right_line places past c (end_of_call w t (past.calls + 1) c l) x j.1 in
      let rest = none_wrong t places (n + 1) (next_past past c x) script lines j.2 in
      let P : ℕ → Type 0 = λ k. SaysCalls w t k script lines rest.0 in (
        end_at b w s nodes c x ∷ rest.0,
        (says t (past.calls + 1) c x l right.text right.end right.reply, subst P (next_calls past c x) rest.1),
        goes_on places past c x script rest.0 right.outcome right.place rest.2,
      )

-- ---- the other way
begin_get : (places : List ℕ) (k p : ℕ) (ps : List ℕ) → Begin (p ∷ ps) (drop k places) → (slice_get places k ≡ Some p) × Begin ps (drop (k + 1) places)
begin_get [] zero p ps h = elim h [ ]
begin_get [] (suc k) p ps h = elim h [ ]
begin_get (x ∷ places) zero p ps h = (ap Some (sym h.0), h.1)
begin_get (x ∷ places) (suc k) p ps h =
    let up : suc (k + 1) ≡ suc k + 1 = omega arith in
    let rest = begin_get places k p ps h in
    let P : ℕ → Type 0 = λ j. Begin ps (drop j (x ∷ places)) in
    (rest.0, subst P up rest.1)

is_place_of : (p : ℕ) (o : Option ℕ) → o ≡ Some p → is_that_place p o ≡ true
is_place_of p None e = cc e
is_place_of p (Some q) e = eq_test q p (same_Some q p e)

pub and_true : (a b : Bool) → a ≡ true → b ≡ true → (a && b) ≡ true
and_true true b g h = h
and_true false b g h = cc g

all_right : (o p r : Bool) (x : Said) → o ≡ true → p ≡ true → r ≡ true
    → right_if o whys.Outcome (right_if p whys.Place (right_if r whys.Reply (Ok x))) ≡ Ok x
all_right true true true x g h k = refl
all_right true true false x g h k = cc k
all_right true false r x g h k = cc h
all_right false p r x g h k = cc g

-- what follows a front
pub begins_with : (front rest : List ℕ) → after_text front (front ++ rest) ≡ Some rest
begins_with front rest =
    let e : front ≡ take (length front) (front ++ rest) = sym (take-append_seam front rest) in
    ap (λ (test : Bool). some_if test (drop (length front) (front ++ rest))) ((bytes_eq-Decides front (take (length front) (front ++ rest))).1 e)
    ∙ ap Some (drop-append_seam front rest)

module _ {State Op Query Reply : Type 0} (b : Behaviour State Op Query Reply) (w : Wording State Op Query Reply) (s : State) (nodes : List Node) where
  -- what a line says with this text after its arrow
  pub end_is : (front line text : List ℕ) (x : Said) → line ≡ front ++ 32 ∷ text → said_of text ≡ Some x → end_after front line ≡ Some (text, x)
  end_is front line text x e h =
      ap (end_after front) e
      ∙ ap (λ (o : Option (List ℕ)). o >? λ rest. after_text (codes " ") rest >? λ t. with_text t (said_of t)) (begins_with front (32 ∷ text))
      ∙ ap (λ (o : Option (List ℕ)). o >? λ t. with_text t (said_of t)) (begins_with (codes " ") text)
      ∙ ap (with_text text) h

  -- the rest of a legal report after one outcome, and that its line is right
  record GoesOn (places : List ℕ) (past : Past) (c : Call State Op Query Reply) (x : Said) (text : List ℕ) (script : List (Call State Op Query Reply))
      (outcomes : List (CallEnd State Op Query Reply)) : Type 0 where
    outcome : outcome_right past c x ≡ true
    place : place_right places (length nodes) past c x ≡ true
    reply : reply_right b w s nodes c x text ≡ true
    rest : Follow b s nodes (next_past past c x).answered (next_past past c x).read (next_past past c x).failed (drop (next_past past c x).placed places) script outcomes

  reply_of : (c : Call State Op Query Reply) (reply : Reply) (p q : ℕ) (text : List ℕ) → q ≡ p → reply ≡ reply_at b w s nodes c p
      → text ≡ joined (w.reply_words reply ++ at_words p) → reply_right b w s nodes c (said.Answered q) text ≡ true
  reply_of c reply p q text same r e =
      let f = λ (n : ℕ). joined (w.reply_words (reply_at b w s nodes c n) ++ at_words n) in
      (bytes_eq-Decides (f q) text).1 (ap f same ∙ ap (λ (v : Reply). joined (w.reply_words v ++ at_words p)) (sym r) ∙ sym e)

  legal_next : (places : List ℕ) (past : Past) (c : Call State Op Query Reply) (x : Said) (e : CallEnd State Op Query Reply) (script : List (Call State Op Query Reply))
      (outcomes : List (CallEnd State Op Query Reply)) → SameOutcome x e
      → Follow b s nodes past.answered past.read past.failed (drop past.placed places) (c ∷ script) (e ∷ outcomes)
      → GoesOn places past c x (joined (end_words w e)) script outcomes
  legal_next places past (Update op) (said.Answered q) (ends.Answered reply p) script outcomes same f = by_failed past.failed f
    where
      by_failed : (failed : Option ℕ) → Follow b s nodes past.answered past.read failed (drop past.placed places) (Update op ∷ script) (ends.Answered reply p ∷ outcomes)
          → GoesOn places (record past { failed = failed }) (Update op) (said.Answered q) (joined (end_words w (ends.Answered reply p))) script outcomes
      by_failed (Some o) g = elim g.broken [ ]
      by_failed None g =
          let at = begin_get places past.placed p _ g.placed in
          record {
            outcome = refl;
            place = and_true (is_that_place q (slice_get places past.placed)) (is_above past.read q)
                (is_place_of q (slice_get places past.placed) (at.0 ∙ ap Some (sym same))) (ap (is_above past.read) same ∙ g.after.0);
            reply = reply_of (Update op) reply p q (joined (end_words w (ends.Answered reply p))) same g.replies.0 refl;
            rest = record {
              replies = g.replies.1;
              answers = g.answers.1;
              after = let P : ℕ → Type 0 = λ n. EachEnd (After (max past.answered n) past.read) script outcomes in
                  subst P (sym same) (each_both (After past.answered past.read) (InOrder (Update op) (ends.Answered reply p)) (After (max past.answered p) past.read)
                  (λ d y. update_join past.answered past.read op reply p d y) script outcomes g.after.1 g.in_order.0);
              in_order = g.in_order.1;
              broken = g.broken;
              placed = at.1;
            };
          }
  legal_next places past (Update op) (said.Answered q) ends.Running script outcomes same f = elim same [ ]
  legal_next places past (Update op) (said.Answered q) (ends.Ordered p) script outcomes same f = elim same [ ]
  legal_next places past (Update op) (said.Answered q) (ends.FenceFailed p) script outcomes same f = elim same [ ]
  legal_next places past (Update op) (said.Answered q) (ends.Broken p) script outcomes same f = elim same [ ]
  legal_next places past (Update op) (said.FenceFailed q) (ends.FenceFailed p) script outcomes same f = by_failed past.failed f
    where
      by_failed : (failed : Option ℕ) → Follow b s nodes past.answered past.read failed (drop past.placed places) (Update op ∷ script) (ends.FenceFailed p ∷ outcomes)
          → GoesOn places (record past { failed = failed }) (Update op) (said.FenceFailed q) (joined (end_words w (ends.FenceFailed p))) script outcomes
      by_failed (Some o) g = elim g.broken [ ]
      by_failed None g =
          let at = begin_get places past.placed p _ g.placed in
          record {
            outcome = refl;
            place = and_true (is_that_place q (slice_get places past.placed)) (is_above past.read q)
                (is_place_of q (slice_get places past.placed) (at.0 ∙ ap Some (sym same))) (ap (is_above past.read) same ∙ g.after.0);
            reply = refl;
            rest = record {
              replies = g.replies.1;
              answers = g.answers.1;
              after = g.after.1;
              in_order = g.in_order.1;
              broken = let P : ℕ → Type 0 = λ n. BrokenAfterFailure (Some n) script outcomes in subst P (sym same) g.broken;
              placed = at.1;
            };
          }
  legal_next places past (Update op) (said.FenceFailed q) (ends.Answered reply p) script outcomes same f = elim same [ ]
  legal_next places past (Update op) (said.FenceFailed q) ends.Running script outcomes same f = elim same [ ]
  legal_next places past (Update op) (said.FenceFailed q) (ends.Ordered p) script outcomes same f = elim same [ ]
  legal_next places past (Update op) (said.FenceFailed q) (ends.Broken p) script outcomes same f = elim same [ ]
  legal_next places past (Update op) (said.Broken q) (ends.Broken p) script outcomes same f = by_failed past.failed f
    where
      by_failed : (failed : Option ℕ) → Follow b s nodes past.answered past.read failed (drop past.placed places) (Update op ∷ script) (ends.Broken p ∷ outcomes)
          → GoesOn places (record past { failed = failed }) (Update op) (said.Broken q) (joined (end_words w (ends.Broken p))) script outcomes
      by_failed None g = elim g.broken [ ]
      by_failed (Some o) g = record {
        outcome = eq_test q o (same ∙ g.broken.0);
        place = refl;
        reply = refl;
        rest = record { replies = g.replies.1; answers = g.answers.1; after = g.after.1; in_order = g.in_order.1; broken = g.broken.1; placed = g.placed };
      }
  legal_next places past (Update op) (said.Broken q) (ends.Answered reply p) script outcomes same f = elim same [ ]
  legal_next places past (Update op) (said.Broken q) ends.Running script outcomes same f = elim same [ ]
  legal_next places past (Update op) (said.Broken q) (ends.Ordered p) script outcomes same f = elim same [ ]
  legal_next places past (Update op) (said.Broken q) (ends.FenceFailed p) script outcomes same f = elim same [ ]
  legal_next places past (Ask query) (said.Answered q) (ends.Answered reply p) script outcomes same f = record {
    outcome = refl;
    place = and_true (nat_le q (length nodes)) (nat_le past.answered q)
        (le_test q (length nodes) (omega (arith, f.answers.0.1))) (le_test past.answered q (omega (arith, f.after.0)));
    reply = reply_of (Ask query) reply p q (joined (end_words w (ends.Answered reply p))) same f.answers.0.2 refl;
    rest = record {
      replies = f.replies.1;
      answers = f.answers.1;
      after = let P : ℕ → Type 0 = λ n. EachEnd (After (max past.answered n) (higher past.read n)) script outcomes in
          subst P (sym same) (each_both (After past.answered past.read) (InOrder (Ask query) (ends.Answered reply p)) (After (max past.answered p) (higher past.read p))
          (λ d y. read_join past.answered past.read query reply p d y) script outcomes f.after.1 f.in_order.0);
      in_order = f.in_order.1;
      broken = still_broken past.failed f.broken;
      placed = f.placed;
    };
  }
    where
      still_broken : (failed : Option ℕ) → BrokenAfterFailure failed (Ask query ∷ script) (ends.Answered reply p ∷ outcomes) → BrokenAfterFailure failed script outcomes
      still_broken None h = h
      still_broken (Some o) h = h
  legal_next places past (Ask query) (said.Answered q) ends.Running script outcomes same f = elim same [ ]
  legal_next places past (Ask query) (said.Answered q) (ends.Ordered p) script outcomes same f = elim same [ ]
  legal_next places past (Ask query) (said.Answered q) (ends.FenceFailed p) script outcomes same f = elim same [ ]
  legal_next places past (Ask query) (said.Answered q) (ends.Broken p) script outcomes same f = elim same [ ]
  legal_next places past (Ask query) (said.FenceFailed q) (ends.FenceFailed p) script outcomes same f = by_failed past.failed f.broken
    where
      by_failed : (failed : Option ℕ) → BrokenAfterFailure failed (Ask query ∷ script) (ends.FenceFailed p ∷ outcomes)
          → GoesOn places past (Ask query) (said.FenceFailed q) (joined (end_words w (ends.FenceFailed p))) script outcomes
      by_failed None h = elim h [ ]
      by_failed (Some o) h = elim h [ ]
  legal_next places past (Ask query) (said.FenceFailed q) (ends.Answered reply p) script outcomes same f = elim same [ ]
  legal_next places past (Ask query) (said.FenceFailed q) ends.Running script outcomes same f = elim same [ ]
  legal_next places past (Ask query) (said.FenceFailed q) (ends.Ordered p) script outcomes same f = elim same [ ]
  legal_next places past (Ask query) (said.FenceFailed q) (ends.Broken p) script outcomes same f = elim same [ ]
  legal_next places past (Ask query) (said.Broken q) (ends.Broken p) script outcomes same f = by_failed past.failed f.broken
    where
      by_failed : (failed : Option ℕ) → BrokenAfterFailure failed (Ask query ∷ script) (ends.Broken p ∷ outcomes)
          → GoesOn places past (Ask query) (said.Broken q) (joined (end_words w (ends.Broken p))) script outcomes
      by_failed None h = elim h [ ]
      by_failed (Some o) h = elim h [ ]
  legal_next places past (Ask query) (said.Broken q) (ends.Answered reply p) script outcomes same f = elim same [ ]
  legal_next places past (Ask query) (said.Broken q) ends.Running script outcomes same f = elim same [ ]
  legal_next places past (Ask query) (said.Broken q) (ends.Ordered p) script outcomes same f = elim same [ ]
  legal_next places past (Ask query) (said.Broken q) (ends.FenceFailed p) script outcomes same f = elim same [ ]

  -- Where the lines of a thread say outcomes that follow, none of them is wrong.
  pub legal_right : (t : ℕ) (places : List ℕ) (n : ℕ) (past : Past) (script : List (Call State Op Query Reply)) (lines : List (List ℕ))
      (outcomes : List (CallEnd State Op Query Reply)) → SaysCalls w t past.calls script lines outcomes
      → Follow b s nodes past.answered past.read past.failed (drop past.placed places) script outcomes
      → thread_wrong b w s nodes t places n past script lines ≡ None
  legal_right t places n past script [] outcomes says f = refl
  legal_right t places n past [] (l ∷ lines) outcomes says f = elim says [ ]
  legal_right t places n past (c ∷ script) (l ∷ lines) [] says f = elim says [ ]
  legal_right t places n past (c ∷ script) (l ∷ lines) (e ∷ outcomes) says f =
      let one = says.0 in
      let text = joined (end_words w e) in
      let on = legal_next places past c one.outcome e script outcomes one.same f in
      let end = end_is (call_front w t (past.calls + 1) c) l text one.outcome (one.line_is ∙ line_parts w t (past.calls + 1) c e) one.read in
      let P : ℕ → Type 0 = λ k. SaysCalls w t k script lines outcomes in
      ap (λ (o : Option (List ℕ × Said)). on_judged n (judge_end b w s nodes places past c o)
      (λ x. thread_wrong b w s nodes t places (n + 1) (next_past past c x) script lines)) end
      ∙ ap (λ (r : Result Said Why). on_judged n r (λ x. thread_wrong b w s nodes t places (n + 1) (next_past past c x) script lines))
      (all_right _ _ _ one.outcome on.outcome on.place on.reply)
      ∙ legal_right t places (n + 1) (next_past past c one.outcome) script lines outcomes (subst P (sym (next_calls b w s nodes past c one.outcome)) says.1) on.rest

pub ruleset threads = (none_wrong, legal_right)
