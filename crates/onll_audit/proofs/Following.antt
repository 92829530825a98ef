use Rattle.std.proofs.Common.{ℕ, zero, suc, Bool, true, false, List, [], ◌∷◌, ◌≡◌, ◌+◌, ◌<◌, ◌≤◌, ◌&&◌, ◌==◌, nat_lt, nat_le, max, length, map, drop, slice_get, Option, Some, None, refl, ap, sym, ◌∙◌, arith}
use Rattle.std.specs.Option.{IfSome}
use Rattle.std.proofs.lemmas.Bool.Decides.{nat_tests}
use Rattle.std.proofs.lemmas.Option.{same_Some}
use Rattle.onll_model.specs.declared.node.Node.{Node}
use Rattle.onll_model.specs.declared.call.Call.{Call}
use Rattle.onll_model.specs.declared.call.Call.TheVariants.{Update, Ask}
use Rattle.onll_model.specs.declared.call.CallEnd.{CallEnd}
use Rattle.onll_model.specs.declared.call.CallEnd.TheVariants as ends
use Rattle.onll_model.specs.Object.{Behaviour}
use Rattle.onll_model.specs.Legal.{EachEnd, EachLaterEnd, HasReply, HasAnswer, InOrder, BrokenAfterFailure, place_in, placed_updates}
use Rattle.onll_text.specs.Wording.{Wording}
use Rattle.onll_audit.specs.Verdict.{higher, is_above, is_that_place, place_of, reply_at}

-- ---- after the earlier calls of a thread
-- the place of a call comes after the highest place that was answered, and after the highest place of a read
abbrev pub After : {State Op Query Reply : Type 0} → ℕ → Option ℕ → Call State Op Query Reply → CallEnd State Op Query Reply → Type 0
After answered read (Ask query) (ends.Answered reply place) = answered ≤ place
After answered read (Ask query) ends.Running = Unit {0}
After answered read (Ask query) (ends.Ordered place) = Unit {0}
After answered read (Ask query) (ends.FenceFailed place) = Unit {0}
After answered read (Ask query) (ends.Broken place) = Unit {0}
After answered read (Update op) e = IfSome (place_in e) (λ place. is_above read place ≡ true)

-- these numbers begin those
abbrev pub Begin : List ℕ → List ℕ → Type 0
Begin [] ys = Unit {0}
Begin (x ∷ xs) [] = ⊥
Begin (x ∷ xs) (y ∷ ys) = (x ≡ y) × Begin xs ys

-- The outcomes of calls are legal after earlier ones: their highest answered place, that of their reads, that of the failed fence, and the
-- places of the thread's nodes that are left.
pub record Follow {State Op Query Reply : Type 0} (b : Behaviour State Op Query Reply) (s : State) (nodes : List Node)
    (answered : ℕ) (read : Option ℕ) (failed : Option ℕ) (places : List ℕ) (script : List (Call State Op Query Reply))
    (ends : List (CallEnd State Op Query Reply)) : Type 0 where
  pub replies : EachEnd (HasReply b s nodes) script ends
  pub answers : EachEnd (HasAnswer b s 0 nodes) script ends
  pub after : EachEnd (After answered read) script ends
  pub in_order : EachLaterEnd InOrder script ends
  pub broken : BrokenAfterFailure failed script ends
  pub placed : Begin (map place_of (placed_updates b script ends)) places

-- ---- tests
pub both : (a b : Bool) → (a && b) ≡ true → (a ≡ true) × (b ≡ true)
both true b h = (refl, h)
both false b h = cc

pub le_fact : (m n : ℕ) → nat_le m n ≡ true → m ≤ n
le_fact m n h = grind (arith, nat_tests)

pub le_test : (m n : ℕ) → m ≤ n → nat_le m n ≡ true
le_test m n h = grind (arith, nat_tests)

pub lt_fact : (m n : ℕ) → nat_lt m n ≡ true → m < n
lt_fact m n h = grind (arith, nat_tests)

pub lt_test : (m n : ℕ) → m < n → nat_lt m n ≡ true
lt_test m n h = grind (arith, nat_tests)

pub eq_fact : (m n : ℕ) → (m == n) ≡ true → m ≡ n
eq_fact m n h = grind (arith, nat_tests)

pub eq_test : (m n : ℕ) → m ≡ n → (m == n) ≡ true
eq_test m n h = grind (arith, nat_tests)

-- above the higher of two places is above both
pub above_both : (read : Option ℕ) (p q : ℕ) → is_above (higher read p) q ≡ true → (is_above read q ≡ true) × (p < q)
above_both None p q h = (refl, lt_fact p q h)
above_both (Some r) p q h = (lt_test r q (omega (arith, lt_fact (max r p) q h)), omega (arith, lt_fact (max r p) q h))

pub above_higher : (read : Option ℕ) (p q : ℕ) → is_above read q ≡ true → p < q → is_above (higher read p) q ≡ true
above_higher None p q h lt = lt_test p q lt
above_higher (Some r) p q h lt = lt_test (max r p) q (omega (arith, lt_fact r q h))

some_split : (read : Option ℕ) (p : ℕ) (o : Option ℕ) → IfSome o (λ q. is_above (higher read p) q ≡ true)
    → IfSome o (λ q. is_above read q ≡ true) × IfSome o (λ q. p < q)
some_split read p None h = (tt, tt)
some_split read p (Some q) h = above_both read p q h

some_join : (read : Option ℕ) (p : ℕ) (o : Option ℕ) → IfSome o (λ q. is_above read q ≡ true) → IfSome o (λ q. p < q)
    → IfSome o (λ q. is_above (higher read p) q ≡ true)
some_join read p None g h = tt
some_join read p (Some q) g h = above_higher read p q g h

-- ---- each outcome
module _ {State Op Query Reply : Type 0} where
  pub each_map : (P Q : Call State Op Query Reply → CallEnd State Op Query Reply → Type 0)
      → ((c : Call State Op Query Reply) (e : CallEnd State Op Query Reply) → P c e → Q c e)
      → (calls : List (Call State Op Query Reply)) (outcomes : List (CallEnd State Op Query Reply)) → EachEnd P calls outcomes → EachEnd Q calls outcomes
  each_map P Q f calls [] h = tt
  each_map P Q f [] (e ∷ outcomes) h = elim h [ ]
  each_map P Q f (c ∷ calls) (e ∷ outcomes) h = (f c e h.0, each_map P Q f calls outcomes h.1)

  pub each_both : (P Q R : Call State Op Query Reply → CallEnd State Op Query Reply → Type 0)
      → ((c : Call State Op Query Reply) (e : CallEnd State Op Query Reply) → P c e → Q c e → R c e)
      → (calls : List (Call State Op Query Reply)) (outcomes : List (CallEnd State Op Query Reply)) → EachEnd P calls outcomes → EachEnd Q calls outcomes
      → EachEnd R calls outcomes
  each_both P Q R f calls [] g h = tt
  each_both P Q R f [] (e ∷ outcomes) g h = elim g [ ]
  each_both P Q R f (c ∷ calls) (e ∷ outcomes) g h = (f c e g.0 h.0, each_both P Q R f calls outcomes g.1 h.1)

  -- after an update that was answered
  pub update_split : (a : ℕ) (read : Option ℕ) (op : Op) (reply : Reply) (p : ℕ) (d : Call State Op Query Reply) (f : CallEnd State Op Query Reply)
      → After (max a p) read d f → After a read d f × InOrder (Update op) (ends.Answered reply p) d f
  update_split a read op reply p (Ask query) (ends.Answered r q) h = (omega arith, omega arith)
  update_split a read op reply p (Ask query) ends.Running h = (tt, tt)
  update_split a read op reply p (Ask query) (ends.Ordered q) h = (tt, tt)
  update_split a read op reply p (Ask query) (ends.FenceFailed q) h = (tt, tt)
  update_split a read op reply p (Ask query) (ends.Broken q) h = (tt, tt)
  update_split a read op reply p (Update o) f h = (h, tt)

  pub update_join : (a : ℕ) (read : Option ℕ) (op : Op) (reply : Reply) (p : ℕ) (d : Call State Op Query Reply) (f : CallEnd State Op Query Reply)
      → After a read d f → InOrder (Update op) (ends.Answered reply p) d f → After (max a p) read d f
  update_join a read op reply p (Ask query) (ends.Answered r q) g h = omega arith
  update_join a read op reply p (Ask query) ends.Running g h = tt
  update_join a read op reply p (Ask query) (ends.Ordered q) g h = tt
  update_join a read op reply p (Ask query) (ends.FenceFailed q) g h = tt
  update_join a read op reply p (Ask query) (ends.Broken q) g h = tt
  update_join a read op reply p (Update o) f g h = g

  -- after a read
  pub read_split : (a : ℕ) (read : Option ℕ) (query : Query) (reply : Reply) (p : ℕ) (d : Call State Op Query Reply) (f : CallEnd State Op Query Reply)
      → After (max a p) (higher read p) d f → After a read d f × InOrder (Ask query) (ends.Answered reply p) d f
  read_split a read query reply p (Ask o) (ends.Answered r q) h = (omega arith, omega arith)
  read_split a read query reply p (Ask o) ends.Running h = (tt, tt)
  read_split a read query reply p (Ask o) (ends.Ordered q) h = (tt, tt)
  read_split a read query reply p (Ask o) (ends.FenceFailed q) h = (tt, tt)
  read_split a read query reply p (Ask o) (ends.Broken q) h = (tt, tt)
  read_split a read query reply p (Update o) f h = some_split read p (place_in f) h

  pub read_join : (a : ℕ) (read : Option ℕ) (query : Query) (reply : Reply) (p : ℕ) (d : Call State Op Query Reply) (f : CallEnd State Op Query Reply)
      → After a read d f → InOrder (Ask query) (ends.Answered reply p) d f → After (max a p) (higher read p) d f
  read_join a read query reply p (Ask o) (ends.Answered r q) g h = omega arith
  read_join a read query reply p (Ask o) ends.Running g h = tt
  read_join a read query reply p (Ask o) (ends.Ordered q) g h = tt
  read_join a read query reply p (Ask o) (ends.FenceFailed q) g h = tt
  read_join a read query reply p (Ask o) (ends.Broken q) g h = tt
  read_join a read query reply p (Update o) f g h = some_join read p (place_in f) g h

-- ---- one call more
each_none : {State Op Query Reply : Type 0} (P : Call State Op Query Reply → CallEnd State Op Query Reply → Type 0) (R : Call State Op Query Reply → CallEnd State Op Query Reply → Type 0)
    → ((c : Call State Op Query Reply) (e : CallEnd State Op Query Reply) → R c e)
    → (calls : List (Call State Op Query Reply)) (outcomes : List (CallEnd State Op Query Reply)) → EachEnd P calls outcomes → EachEnd R calls outcomes
each_none P R f calls outcomes h = each_map P R (λ c e _. f c e) calls outcomes h

pub drop_get : (places : List ℕ) (k p : ℕ) → slice_get places k ≡ Some p → drop k places ≡ p ∷ drop (k + 1) places
drop_get [] k p e = cc
drop_get (x ∷ places) zero p e = ap (λ (y : ℕ). y ∷ places) (same_Some x p e)
drop_get (x ∷ places) (suc k) p e =
    let up : suc k + 1 ≡ suc (k + 1) = omega arith in
    drop_get places k p e ∙ ap (λ (j : ℕ). p ∷ drop j (x ∷ places)) (sym up)

pub place_is : (p : ℕ) (o : Option ℕ) → is_that_place p o ≡ true → o ≡ Some p
place_is p None h = cc
place_is p (Some q) h = ap Some (eq_fact q p h)

module _ {State Op Query Reply : Type 0} (b : Behaviour State Op Query Reply) (w : Wording State Op Query Reply) (s : State) (nodes : List Node) where
  -- the outcomes that follow, with one call more
  pub answered_more : (a : ℕ) (read failed : Option ℕ) (places : List ℕ) (op : Op) (p : ℕ) (script : List (Call State Op Query Reply))
      (outcomes : List (CallEnd State Op Query Reply)) → failed ≡ None → is_above read p ≡ true → Follow b s nodes (max a p) read failed places script outcomes
      → Follow b s nodes a read failed (p ∷ places) (Update op ∷ script) (ends.Answered (reply_at b w s nodes (Update op) p) p ∷ outcomes)
  answered_more a read (Some q) places op p script outcomes e above f = cc e
  answered_more a read None places op p script outcomes e above f =
      let split = λ (d : Call State Op Query Reply) (x : CallEnd State Op Query Reply) (h : After (max a p) read d x).
      update_split a read op (reply_at b w s nodes (Update op) p) p d x h in
      record {
        replies = (refl, f.replies);
        answers = (tt, f.answers);
        after = (above, each_map (After (max a p) read) (After a read) (λ d x h. (split d x h).0) script outcomes f.after);
        in_order = (
          each_map (After (max a p) read) (InOrder (Update op) (ends.Answered (reply_at b w s nodes (Update op) p) p)) (λ d x h. (split d x h).1) script outcomes f.after,
          f.in_order,
        );
        broken = f.broken;
        placed = (refl, f.placed);
      }

  pub failed_more : (a : ℕ) (read failed : Option ℕ) (places : List ℕ) (op : Op) (p : ℕ) (script : List (Call State Op Query Reply))
      (outcomes : List (CallEnd State Op Query Reply)) → failed ≡ None → is_above read p ≡ true → Follow b s nodes a read (Some p) places script outcomes
      → Follow b s nodes a read failed (p ∷ places) (Update op ∷ script) (ends.FenceFailed p ∷ outcomes)
  failed_more a read (Some q) places op p script outcomes e above f = cc e
  failed_more a read None places op p script outcomes e above f = record {
    replies = (tt, f.replies);
    answers = (tt, f.answers);
    after = (above, f.after);
    in_order = (each_none (After a read) (InOrder (Update op) (ends.FenceFailed p)) (λ _ _. tt) script outcomes f.after, f.in_order);
    broken = f.broken;
    placed = (refl, f.placed);
  }

  pub broken_more : (a : ℕ) (read : Option ℕ) (places : List ℕ) (op : Op) (p q : ℕ) (script : List (Call State Op Query Reply))
      (outcomes : List (CallEnd State Op Query Reply)) → p ≡ q → Follow b s nodes a read (Some q) places script outcomes
      → Follow b s nodes a read (Some q) places (Update op ∷ script) (ends.Broken p ∷ outcomes)
  broken_more a read places op p q script outcomes e f = record {
    replies = (tt, f.replies);
    answers = (tt, f.answers);
    after = (tt, f.after);
    in_order = (each_none (After a read) (InOrder (Update op) (ends.Broken p)) (λ _ _. tt) script outcomes f.after, f.in_order);
    broken = (e, f.broken);
    placed = f.placed;
  }

  read_broken : (failed : Option ℕ) (query : Query) (reply : Reply) (p : ℕ) (script : List (Call State Op Query Reply)) (outcomes : List (CallEnd State Op Query Reply))
      → BrokenAfterFailure failed script outcomes → BrokenAfterFailure failed (Ask query ∷ script) (ends.Answered reply p ∷ outcomes)
  read_broken None query reply p script outcomes h = h
  read_broken (Some q) query reply p script outcomes h = h

  pub read_more : (a : ℕ) (read failed : Option ℕ) (places : List ℕ) (query : Query) (p : ℕ) (script : List (Call State Op Query Reply))
      (outcomes : List (CallEnd State Op Query Reply)) → p ≤ length nodes → a ≤ p → Follow b s nodes (max a p) (higher read p) failed places script outcomes
      → Follow b s nodes a read failed places (Ask query ∷ script) (ends.Answered (reply_at b w s nodes (Ask query) p) p ∷ outcomes)
  read_more a read failed places query p script outcomes low up f =
      let reply = reply_at b w s nodes (Ask query) p in
      let split = λ (d : Call State Op Query Reply) (x : CallEnd State Op Query Reply) (h : After (max a p) (higher read p) d x).
      read_split a read query reply p d x h in
      record {
        replies = (tt, f.replies);
        answers = ((omega arith, low, refl), f.answers);
        after = (up, each_map (After (max a p) (higher read p)) (After a read) (λ d x h. (split d x h).0) script outcomes f.after);
        in_order = (
          each_map (After (max a p) (higher read p)) (InOrder (Ask query) (ends.Answered reply p)) (λ d x h. (split d x h).1) script outcomes f.after,
          f.in_order,
        );
        broken = read_broken failed query reply p script outcomes f.broken;
        placed = f.placed;
      }

pub ruleset laws = (both)
