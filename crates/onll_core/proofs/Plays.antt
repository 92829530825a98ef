use Rattle.std.proofs.Common.{ℕ, zero, suc, ◌≡◌, ◌+◌, ◌-◌, ◌≤◌, Bool, true, false, List, [], ◌∷◌, ◌++◌, length, replicate, Option, Some, None, sym, refl, ap, ◌∙◌, arith}
use Rattle.std.specs.Prelude.{IfSome, ◌↔◌, ◌==◌, nat_le, if◌then◌else◌}
use Rattle.std.specs.List.{slice_get}
use Rattle.onll_model.specs.declared.call.Call.{Call}
use Rattle.onll_model.specs.declared.call.Call.TheVariants.{Update, Ask}
use Rattle.onll_model.specs.Object.{Behaviour}
use Rattle.onll_model.specs.Frames.{is_available}
use Rattle.onll_model.specs.Events.{next_node}
use Rattle.onll_model.specs.declared.turn.Turn.{Turn}
use Rattle.onll_core.specs.declared.returned.Stepped.{Stepped}
use Rattle.onll_core.specs.declared.returned.Stepped.TheVariants as stepped
use Rattle.onll_core.specs.Turns.{turns_of}
use Rattle.onll_core.specs.declared.phase.Phase.{Phase}
use Rattle.onll_core.specs.declared.phase.Phase.TheVariants as phases
use Rattle.onll_core.specs.Core.{CoreThread, CoreState}
use Rattle.onll_core.specs.Step.{put, begun, turned, linked, answered, after_exchange, act, next_call, step_by, step_of, steps_of}

-- Steps one after the other.

module _ {State Op Query Reply : Type 0} (b : Behaviour State Op Query Reply) where
  pub steps_append : (c : CoreState State Op Query Reply) (xs ys : List ℕ) → steps_of b c (xs ++ ys) ≡ steps_of b (steps_of b c xs) ys
  steps_append c [] ys = refl
  steps_append c (x ∷ xs) ys = steps_append (step_of b c x) xs ys

  -- the clock rises by one at most
  module _ (c : CoreState State Op Query Reply) (t : ℕ) (th : CoreThread State Op Query Reply) where
    update_clock : (op : Op) (ph : Phase) → (act b c t th (Some (Update op)) ph).clock ≤ suc c.clock
    update_clock op phases.Idle = omega arith
    update_clock op (phases.Tail l) = omega arith
    update_clock op (phases.Exchange l) = by_tail (length c.trace == l)
      where
        by_tail : (q : Bool) → (if q then linked c t (next_node c.trace t (b.row_of op)) (turned th (after_exchange c.base l)) else put c t (turned th (phases.Tail l))).clock ≤ suc c.clock
        by_tail true = omega arith
        by_tail false = omega arith
    update_clock op (phases.Flag p d) = omega arith
    update_clock op (phases.Line p d j) = omega arith
    update_clock op (phases.Back p d j) = omega arith
    update_clock op (phases.Fence p d) = omega arith
    update_clock op (phases.Set p d) = omega arith
    update_clock op (phases.Ask g d) = omega arith

    ask_clock : (query : Query) (ph : Phase) → (act b c t th (Some (Ask query)) ph).clock ≤ suc c.clock
    ask_clock query phases.Idle = by_base (nat_le (length c.trace) c.base)
      where
        by_base : (q : Bool) → (if q then answered b c t th c.clock c.base query else put c t (begun th c.clock (phases.Ask (length c.trace) (length c.trace)))).clock ≤ suc c.clock
        by_base true = omega arith
        by_base false = omega arith
    ask_clock query (phases.Ask g d) = by_flag (is_available c.flags d) (nat_le d (c.base + 1))
      where
        by_flag : (q r : Bool) → (if q then answered b c t th th.began d query else (if r then answered b c t th th.began c.base query else put c t (turned th (phases.Ask g (d - 1))))).clock ≤ suc c.clock
        by_flag true r = omega arith
        by_flag false true = omega arith
        by_flag false false = omega arith
    ask_clock query (phases.Tail l) = omega arith
    ask_clock query (phases.Exchange l) = omega arith
    ask_clock query (phases.Flag p d) = omega arith
    ask_clock query (phases.Line p d j) = omega arith
    ask_clock query (phases.Back p d j) = omega arith
    ask_clock query (phases.Fence p d) = omega arith
    ask_clock query (phases.Set p d) = omega arith

    act_clock : (call : Option (Call State Op Query Reply)) (ph : Phase) → (act b c t th call ph).clock ≤ suc c.clock
    act_clock None ph = omega arith
    act_clock (Some (Update op)) ph = update_clock op ph
    act_clock (Some (Ask query)) ph = ask_clock query ph

  pub step_clock : (c : CoreState State Op Query Reply) (t : ℕ) → (step_of b c t).clock ≤ c.clock + 1
  step_clock c t = by_thread (slice_get c.threads t)
    where
      by_thread : (o : Option (CoreThread State Op Query Reply)) → (step_by b c t o).clock ≤ c.clock + 1
      by_thread None = omega arith
      by_thread (Some th) = let h = act_clock c t th (next_call th) th.phase in omega arith

  -- a thread whose script is at its end changes nothing
  pub done_still : (c : CoreState State Op Query Reply) (t : ℕ) → IfSome (slice_get c.threads t) (λ th. next_call th ≡ None) → step_of b c t ≡ c
  done_still c t = by_thread (slice_get c.threads t)
    where
      by_thread : (o : Option (CoreThread State Op Query Reply)) → IfSome o (λ th. next_call th ≡ None) → step_by b c t o ≡ c
      by_thread None h = refl
      by_thread (Some th) h = ap (λ (call : Option (Call State Op Query Reply)). act b c t th call th.phase) h

  pub done_stays : (c : CoreState State Op Query Reply) (t n : ℕ) → step_of b c t ≡ c → steps_of b c (replicate n t) ≡ c
  done_stays c t zero e = refl
  done_stays c t (suc n) e = ap (λ (s : CoreState State Op Query Reply). steps_of b s (replicate n t)) e ∙ done_stays c t n e

  -- ---- what the code of a run leaves to do
  pub done_run : (s new : CoreState State Op Query Reply) (t left : ℕ) (r : Stepped) → new ≡ step_of b s t → IfSome (slice_get s.threads t) (λ th. (r ≡ stepped.Done) ↔ (next_call th ≡ None)) → r ≡ stepped.Done
      → new ≡ steps_of b s (replicate left t)
  done_run s new t left r is done e =
      let still = done_still s t (ends (slice_get s.threads t) done) in is ∙ (still ∙ sym (done_stays s t left still))
    where
      ends : (o : Option (CoreThread State Op Query Reply)) → IfSome o (λ th. (r ≡ stepped.Done) ↔ (next_call th ≡ None)) → IfSome o (λ th. next_call th ≡ None)
      ends None h = h
      ends (Some th) h = h.0 e

  pub run_more : (s new : CoreState State Op Query Reply) (t n m : ℕ) → new ≡ step_of b s t → n ≡ suc m → steps_of b new (replicate m t) ≡ steps_of b s (replicate n t)
  run_more s new t n m is e = ap (λ (z : CoreState State Op Query Reply). steps_of b z (replicate m t)) is ∙ ap (λ (k : ℕ). steps_of b s (replicate k t)) (sym e)

  pub play_more : (s new : CoreState State Op Query Reply) (turn : Turn) (rest all : List Turn) → new ≡ steps_of b s (replicate turn.count turn.thread) → all ≡ turn ∷ rest → steps_of b new (turns_of rest) ≡ steps_of b s (turns_of all)
  play_more s new turn rest all is e = ap (λ (z : CoreState State Op Query Reply). steps_of b z (turns_of rest)) is ∙
      (sym (steps_append s (replicate turn.count turn.thread) (turns_of rest)) ∙ ap (λ (l : List Turn). steps_of b s (turns_of l)) (sym e))
