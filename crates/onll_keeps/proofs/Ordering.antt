-- What an answered update leaves is so of the state before each later one.
use Rattle.std.proofs.Common.{ℕ, zero, suc, ◌≡◌, ◌+◌, ◌-◌, ◌<◌, List, [], ◌∷◌, drop, length, Some, take, refl, sym, ap, ◌∙◌, subst, arith}
use Rattle.std.specs.List.{slice_get}
use Rattle.onll_model.specs.declared.call.Call.{Call}
use Rattle.onll_model.specs.declared.call.Call.TheVariants.{Update}
use Rattle.onll_model.specs.declared.call.CallEnd.{CallEnd}
use Rattle.onll_model.specs.declared.call.CallEnd.TheVariants.{Answered}
use Rattle.onll_model.specs.declared.node.Node.{Node}
use Rattle.onll_model.specs.Legal.{AreLegalThreads, HasReply, IsLegal, IsLegalThread}
use Rattle.onll_model.specs.Object.{Behaviour}
use Rattle.onll_model.specs.Trace.{after_row, node_at, state_after}
use Rattle.onll_model.proofs.Lists.{same_some, some_not_none}
use Rattle.onll_model.proofs.Placed.{each_end_at, own_node}
use Rattle.onll_balance.proofs.Nodes.{next_state}
use Rattle.onll_keeps.specs.Orders.{OrdersLaw, WasAnswered}
use Rattle.onll_keeps.proofs.Telling.{fact_so}

none_taken : (d : ℕ) → take {A = Node} d [] ≡ []
none_taken zero = refl
none_taken (suc d) = refl

module _ {State Op Query Reply : Type 0} (b : Behaviour State Op Query Reply) where
  -- the nodes up to a place, and those behind it
  state_behind : (s : State) (k d : ℕ) (trace : List Node)
      → state_after b s (take (k + d) trace) ≡ state_after b (state_after b s (take k trace)) (take d (drop k trace))
  state_behind s zero d trace = let z : 0 + d ≡ d = omega arith in ap (λ (n : ℕ). state_after b s (take n trace)) z
  state_behind s (suc k) d [] = ap (state_after b s) (none_taken (suc k + d) ∙ sym (none_taken d))
  state_behind s (suc k) d (x ∷ trace) =
      let z : suc k + d ≡ suc (k + d) = omega arith in
      ap (λ (n : ℕ). state_after b s (take n (x ∷ trace))) z ∙ state_behind (after_row b s (b.op_at x.row)) k d trace

  legal_at : (s : State) (base : ℕ) (trace : List Node) (u t : ℕ) (scripts : List (List (Call State Op Query Reply)))
      (ends : List (List (CallEnd State Op Query Reply))) (calls : List (Call State Op Query Reply))
      (es : List (CallEnd State Op Query Reply)) → AreLegalThreads b s base trace u scripts ends
      → slice_get scripts t ≡ Some calls → slice_get ends t ≡ Some es → (v : ℕ) × IsLegalThread b s base trace v calls es
  legal_at s base trace u t [] ends calls es l c e = some_not_none calls (sym c)
  legal_at s base trace u t (x ∷ scripts) [] calls es l c e = absurd l
  legal_at s base trace u zero (x ∷ scripts) (y ∷ ends) calls es l c e = (
    u,
    subst (λ (z : List (CallEnd State Op Query Reply)). IsLegalThread b s base trace u calls z) (same_some y es e)
        (subst (λ (z : List (Call State Op Query Reply)). IsLegalThread b s base trace u z y) (same_some x calls c) l.0),
  )
  legal_at s base trace u (suc t) (x ∷ scripts) (y ∷ ends) calls es l c e = legal_at s base trace (u + 1) t scripts ends calls es l.1 c e

  module _ (first : State) (base : List Node) (scripts : List (List (Call State Op Query Reply))) (trace : List Node)
      (ends : List (List (CallEnd State Op Query Reply))) (legal : IsLegal b first base scripts trace ends) (op : Op) (reply : Reply) where
    abbrev before_place : (place : ℕ) → State
    before_place place = state_after b first (take (place - 1) trace)

    record IsDone (place : ℕ) : Type 0 where
      pub reply_is : reply ≡ b.reply (before_place place) op
      pub next_is : state_after b first (take place trace) ≡ b.next (before_place place) op
      pub some_place : 0 < place

    done_at : (place : ℕ) (node : Node) → node_at trace place ≡ Some node → node.row ≡ b.row_of op
        → reply ≡ b.reply (before_place place) op → IsDone place
    done_at zero node here row r = some_not_none node (sym here)
    done_at (suc i) node here row r =
        let back : suc i - 1 ≡ i = omega arith in
        let op_is : b.op_at node.row ≡ Some op = ap b.op_at row ∙ b.op_of_its_row op in
        record {
          reply_is = r;
          next_is = next_state b first trace i node here ∙ (ap (after_row b (state_after b first (take i trace))) op_is
              ∙ ap (λ (n : ℕ). b.next (state_after b first (take n trace)) op) (sym back));
          some_place = omega arith;
        }

    done : (place : ℕ) → WasAnswered scripts ends op reply place → IsDone place
    done place w =
        let l = legal_at first (length base) trace 0 w.thread scripts ends w.calls w.outcomes legal.outcomes w.calls_are w.outcomes_are in
        let own = own_node b (length base) trace l.0 w.calls w.outcomes l.1.places w.index op (Answered reply place) place w.call_is w.end_is
        refl in
        done_at place own.node own.here own.row_is
        (each_end_at (HasReply b first trace) w.calls w.outcomes w.index (Update op) (Answered reply place) l.1.replies w.call_is w.end_is)

  module _ (since : Op → Reply → State → Type 0) (then_so : Op → Reply → Op → Reply → Type 0)
      (begins : (s : State) (op : Op) → since op (b.reply s op) (b.next s op))
      (goes_on : (op : Op) (reply : Reply) (s : State) (more : Op) → since op reply s → since op reply (b.next s more))
      (follows : (op : Op) (reply : Reply) (s : State) (later : Op) → since op reply s → then_so op reply later (b.reply s later)) where
    pub ordered : OrdersLaw b then_so
    ordered first base scripts trace ends legal op later reply later_reply place later_place w w' low =
        let d = done first base scripts trace ends legal op reply place w in
        let e = done first base scripts trace ends legal later later_reply later_place w' in
        let more = later_place - 1 - place in
        let sum : place + more ≡ later_place - 1 = omega (arith, low) in
        let before = state_after b first (take (place - 1) trace) in
        let here : since op reply (state_after b first (take place trace)) =
        subst (since op reply) (sym d.next_is) (subst (λ (r : Reply). since op r (b.next before op)) (sym d.reply_is) (begins before op)) in
        let there = fact_so b (since op reply) (goes_on op reply) (state_after b first (take place trace)) (take more (drop place trace)) here in
        let same = sym (state_behind first place more trace) ∙ ap (λ (n : ℕ). state_after b first (take n trace)) sum in
        subst (then_so op reply later) (sym e.reply_is)
        (follows op reply (state_after b first (take (later_place - 1) trace)) later (subst (since op reply) same there))
