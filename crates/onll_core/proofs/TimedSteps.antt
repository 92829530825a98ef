use Rattle.std.proofs.Common.{◌≡◌, ◌≢◌, ℕ, zero, suc, ◌+◌, ◌-◌, ◌<◌, ◌≤◌, ◌==◌, ⊎_elim, Bool, true, false, true≢false, List, [], ◌∷◌, length, take, set, Option, Some, None, refl, sym, ap, ◌∙◌, subst, arith, eqb-true}
use Rattle.std.proofs.lemmas.Bool.{leb-true}
use Rattle.std.specs.Prelude.{nat_le}
use Rattle.std.specs.List.{slice_get}
use mathlib.Core.Logic.{dite}
use native.Mathlib.Decide.{ℕ_discrete}
use Rattle.onll_model.specs.declared.node.Node.{Node}
use Rattle.onll_model.specs.declared.call.Call.{Call}
use Rattle.onll_model.specs.declared.call.Call.TheVariants.{Update, Ask}
use Rattle.onll_model.specs.Object.{Behaviour}
use Rattle.onll_model.specs.Trace.{reply_after, answer_after}
use Rattle.onll_model.specs.Frames.{is_available}
use Rattle.onll_model.specs.Events.{next_node}
use Rattle.onll_model.proofs.Lists.{some_not_none, same_some}
use Rattle.onll_model.proofs.Traces.{node_before}
use Rattle.onll_model.proofs.Flags.{flag_before, available_low, flag_set}
use Rattle.onll_model.proofs.FrameParts.{in_trace}
use Rattle.onll_pmem.specs.Device.{Write, WriteBack, after_step}
use Rattle.onll_core.specs.declared.phase.Phase.{Phase}
use Rattle.onll_core.specs.declared.phase.Phase.TheVariants as phases
use Rattle.onll_core.specs.declared.returned.Returned.{Returned}
use Rattle.onll_core.specs.Core.{CoreThread, CoreState}
use Rattle.onll_core.specs.CoreFrame.{seen_in, frame_of}
use Rattle.onll_core.specs.Step.{turned, begun, on_device, logged, returning, put, linked, flagged, line_of_entry, after_exchange, after_flag, after_back, answered, act, next_call, step_by, step_of}
use Rattle.onll_core.specs.Consistent.{IsConsistent}
use Rattle.onll_core.specs.Outcomes.{current_in, IsFreshCore}
use Rattle.onll_core.proofs.Phases.{if_case, own_last, own_place, seen_below}
use Rattle.onll_core.proofs.Timed.{IsPast, IsAhead, IsBusy, IsTimed, timed_put, timed_return, before_update, before_read}

-- Each step keeps the order of a core's calls.

-- a returned place is no higher than what is seen
pub place_seen : {State Op Query Reply : Type 0} (base : ℕ) (rs : List (Returned State Op Query Reply)) (i : ℕ) (r : Returned State Op Query Reply) → slice_get rs i ≡ Some r → r.place ≤ seen_in base rs
place_seen base [] i r e = some_not_none r (sym e)
place_seen base (x ∷ rs) zero r e = let n = ap (λ z. z.place) (same_some x r e) in omega arith
place_seen base (x ∷ rs) (suc i) r e = let h = place_seen base rs i r e in omega arith

module _ {State Op Query Reply : Type 0} (b : Behaviour State Op Query Reply) (count : ℕ) (c : CoreState State Op Query Reply) (k : IsConsistent count c) (time : IsTimed c) (t : ℕ) (th : CoreThread State Op Query Reply) (at : slice_get c.threads t ≡ Some th) where
  was_ahead : (ph : Phase) → th.phase ≡ ph → (u i : ℕ) (x : Call State Op Query Reply) (a : Returned State Op Query Reply) → IsPast c u i x a → a.ended < th.began → IsAhead a.place ph
  was_ahead ph e u i x a h less = subst (IsAhead a.place) e (time.ahead u i t x a th h at less)

  -- what has returned before the running call
  was_turn : (ph : Phase) → th.phase ≡ ph → IsBusy ph → (i : ℕ) (x : Call State Op Query Reply) (a : Returned State Op Query Reply) → IsPast c t i x a → a.ended < th.began
  was_turn ph e busy i x a h = time.last_turn t i x a th h at (subst IsBusy (sym e) busy)

  old_began : th.began ≤ suc c.clock
  old_began = let n = time.begun t th at in omega arith

  -- a returned call stands in the trace
  in_order : (u i : ℕ) (x : Call State Op Query Reply) (a : Returned State Op Query Reply) → IsPast c u i x a → a.place ≤ length c.trace
  in_order u i x a h = in_trace count (frame_of c) k.sound a.place (time.past u i x a h).available

  own_seen : (i : ℕ) (x : Call State Op Query Reply) (a : Returned State Op Query Reply) → IsPast c t i x a → a.place ≤ seen_in c.base th.returned
  own_seen i x a h = subst (λ (z : CoreThread State Op Query Reply). a.place ≤ seen_in c.base z.returned) (same_some h.thread th (sym h.there ∙ at)) (place_seen c.base h.thread.returned i a h.here)

  moved : (w : CoreThread State Op Query Reply) → w.returned ≡ th.returned → w.script ≡ th.script → w.began ≤ suc c.clock
      → ((u i : ℕ) (x : Call State Op Query Reply) (a : Returned State Op Query Reply) → IsPast c u i x a → a.ended < w.began → IsAhead a.place w.phase)
      → ((i : ℕ) (x : Call State Op Query Reply) (a : Returned State Op Query Reply) → IsPast c t i x a → a.ended < w.began) → IsTimed (put c t w)
  moved w returned script began ahead turn = timed_put c (put c t w) time t th w at refl refl (λ p e. e) (λ p x e. e) script began returned ahead (λ i x a h _. turn i x a h)

  longer : (n : Node) (w : CoreThread State Op Query Reply) → w.returned ≡ th.returned → w.script ≡ th.script → w.began ≤ suc c.clock
      → ((u i : ℕ) (x : Call State Op Query Reply) (a : Returned State Op Query Reply) → IsPast c u i x a → a.ended < w.began → IsAhead a.place w.phase)
      → ((i : ℕ) (x : Call State Op Query Reply) (a : Returned State Op Query Reply) → IsPast c t i x a → a.ended < w.began) → IsTimed (linked c t n w)
  longer n w returned script began ahead turn = timed_put c (linked c t n w) time t th w at refl refl
      (λ p e. flag_before c.flags (false ∷ []) p (available_low c.flags p e) ∙ e) (λ p x e. node_before c.trace (n ∷ []) p x e) script began returned ahead (λ i x a h _. turn i x a h)

  -- the place of the own node stays ahead
  walk_ahead : (p d q : ℕ) (flag : Bool) → q < p → IsAhead q (after_flag c.base p d flag)
  walk_ahead p d q true l = l
  walk_ahead p d q false l = if_case (IsAhead q) (nat_le d (c.base + 1)) (phases.Line p c.base 0) (phases.Flag p (d - 1)) (λ _. l) (λ _. l)

  module _ (op : Op) (is : next_call th ≡ Some (Update op)) where
    -- the own flag is set, and the update returns
    sets : (p d : ℕ) → th.phase ≡ phases.Set p d → IsTimed (flagged c t p (returning th p (reply_after b c.initial (take (p - 1) c.trace) op) th.began c.clock))
    sets p d e =
        let reply : Reply = reply_after b c.initial (take (p - 1) c.trace) op in
        let r : Returned State Op Query Reply = record { place = p; reply = reply; began = th.began; ended = c.clock } in
        let w : CoreThread State Op Query Reply = returning th p reply th.began c.clock in
        let last = own_last count c k t th at p (ap current_in e) in
        let here = own_place count c k t th at p (ap current_in e) in
        let high : p ≤ length c.flags = (let h = here.1 in let l = k.sound.flags in omega arith) in
        let below = seen_below count c k t th at p (ap current_in e) in
        timed_return c (flagged c t p w) time t th w at refl refl
        (λ q f. ⊎_elim (λ (h : (q ≡ p) × (is_available (set c.flags (p - 1) true) q ≡ true)). h.1) (λ (h : (q ≢ p) × (is_available (set c.flags (p - 1) true) q ≡ is_available c.flags q)). h.1 ∙ f) (flag_set c.flags p q here.0 high))
        (λ q x f. f) refl old_began
        (Update op) r refl is refl
        (⊎_elim (λ (h : (p ≡ p) × (is_available (set c.flags (p - 1) true) p ≡ true)). h.1) (λ (h : (p ≢ p) × (is_available (set c.flags (p - 1) true) p ≡ is_available c.flags p)). absurd (h.0 refl)) (flag_set c.flags p p here.0 high))
        (time.begun t th at) refl
        (last.node, last.here, last.own)
        (λ i x a h. let s = own_seen i x a h in omega arith)
        (was_turn (phases.Set p d) e tt)
        (λ u i x a h less. before_update x op a r (was_ahead (phases.Set p d) e u i x a h less))

    update_timed : (ph : Phase) → th.phase ≡ ph → IsTimed (act b c t th (Some (Update op)) ph)
    update_timed phases.Idle e = moved (begun th c.clock (phases.Exchange (length c.trace))) refl refl (omega arith) (λ u i x a h less. tt) (λ i x a h. (time.past t i x a h).last)
    update_timed (phases.Tail l) e = moved (turned th (phases.Exchange (length c.trace))) refl refl old_began (λ u i x a h less. tt) (was_turn (phases.Tail l) e tt)
    update_timed (phases.Exchange l) e = if_case IsTimed (length c.trace == l) _ _
        (λ same. let size : length c.trace ≡ l = eqb-true (length c.trace) l same in longer (next_node c.trace t (b.row_of op)) (turned th (after_exchange c.base l)) refl refl old_began
        (λ u i x a h less. let p = in_order u i x a h in let low : a.place < l + 1 = omega arith in if_case (IsAhead a.place) (nat_le l c.base) (phases.Line (l + 1) l 0) (phases.Flag (l + 1) l) (λ _. low) (λ _. low)) (was_turn (phases.Exchange l) e tt))
        (λ _. moved (turned th (phases.Tail l)) refl refl old_began (λ u i x a h less. tt) (was_turn (phases.Exchange l) e tt))
    update_timed (phases.Flag p d) e = moved (turned th (after_flag c.base p d (is_available c.flags d))) refl refl old_began (λ u i x a h less. walk_ahead p d a.place (is_available c.flags d) (was_ahead (phases.Flag p d) e u i x a h less)) (was_turn (phases.Flag p d) e tt)
    update_timed (phases.Line p d j) e = moved (on_device th (after_step th.device (Write (th.used + j) (line_of_entry th c.trace p d j))) (phases.Back p d j)) refl refl old_began (was_ahead (phases.Line p d j) e) (was_turn (phases.Line p d j) e tt)
    update_timed (phases.Back p d j) e = moved (on_device th (after_step th.device (WriteBack (th.used + j))) (after_back p d j)) refl refl old_began
        (λ u i x a h less. let l : a.place < p = was_ahead (phases.Back p d j) e u i x a h less in if_case (IsAhead a.place) (nat_le (suc j) (p - d)) (phases.Line p d (suc j)) (phases.Fence p d) (λ _. l) (λ _. l)) (was_turn (phases.Back p d j) e tt)
    update_timed (phases.Fence p d) e = moved (logged th (p - d) (phases.Set p d)) refl refl old_began (was_ahead (phases.Fence p d) e) (was_turn (phases.Fence p d) e tt)
    update_timed (phases.Set p d) e = sets p d e
    update_timed (phases.Ask f d) e = time

  module _ (query : Query) (is : next_call th ≡ Some (Ask query)) where
    answers : (d began : ℕ) → began ≤ c.clock → is_available c.flags d ≡ true → ((u i : ℕ) (x : Call State Op Query Reply) (a : Returned State Op Query Reply) → IsPast c u i x a → a.ended < began → a.place ≤ d)
        → ((i : ℕ) (x : Call State Op Query Reply) (a : Returned State Op Query Reply) → IsPast c t i x a → a.ended < began) → IsTimed (answered b c t th began d query)
    answers d began first flag after turn =
        let reply : Reply = answer_after b c.initial (take d c.trace) query in
        let r : Returned State Op Query Reply = record { place = d; reply = reply; began = began; ended = c.clock } in
        let w : CoreThread State Op Query Reply = returning th d reply began c.clock in
        timed_return c (put c t w) time t th w at refl refl (λ q f. f) (λ q x f. f) refl old_began (Ask query) r refl is refl flag first refl tt (λ i x a h. tt) turn
        (λ u i x a h less. before_read x query a r (after u i x a h less) (time.past u i x a h).last)

    below_unset : (p d : ℕ) → p ≤ d → is_available c.flags p ≡ true → is_available c.flags d ≡ false → p < d
    below_unset p d le there unset = dite (ℕ_discrete p d) (λ is. absurd (true≢false (sym there ∙ (ap (is_available c.flags) is ∙ unset)))) (λ not. omega arith)

    ask_timed : (ph : Phase) → th.phase ≡ ph → IsTimed (act b c t th (Some (Ask query)) ph)
    ask_timed phases.Idle e = if_case IsTimed (nat_le (length c.trace) c.base) _ _
        (λ le. let l = leb-true (length c.trace) c.base le in answers c.base c.clock (omega arith) (k.based.available c.base (omega arith)) (λ u i x a h less. let p = in_order u i x a h in omega arith) (λ i x a h. (time.past t i x a h).last))
        (λ _. moved (begun th c.clock (phases.Ask (length c.trace) (length c.trace))) refl refl (omega arith) (λ u i x a h less. in_order u i x a h) (λ i x a h. (time.past t i x a h).last))
    ask_timed (phases.Ask f d) e = let began = time.begun t th at in
        if_case IsTimed (is_available c.flags d) _ _
        (λ flag. answers d th.began began flag (was_ahead (phases.Ask f d) e) (was_turn (phases.Ask f d) e tt))
        (λ unset. let below : (u i : ℕ) (x : Call State Op Query Reply) (a : Returned State Op Query Reply) → IsPast c u i x a → a.ended < th.began → a.place < d =
        (λ u i x a h less. below_unset a.place d (was_ahead (phases.Ask f d) e u i x a h less) (time.past u i x a h).available unset) in
        if_case IsTimed (nat_le d (c.base + 1)) _ _
        (λ le. let l = leb-true d (c.base + 1) le in answers c.base th.began began (k.based.available c.base (omega arith)) (λ u i x a h less. let s = below u i x a h less in omega arith) (was_turn (phases.Ask f d) e tt))
        (λ _. moved (turned th (phases.Ask f (d - 1))) refl refl old_began (λ u i x a h less. let s = below u i x a h less in omega arith) (was_turn (phases.Ask f d) e tt)))
    ask_timed (phases.Tail l) e = time
    ask_timed (phases.Exchange l) e = time
    ask_timed (phases.Flag p d) e = time
    ask_timed (phases.Line p d j) e = time
    ask_timed (phases.Back p d j) e = time
    ask_timed (phases.Fence p d) e = time
    ask_timed (phases.Set p d) e = time

  act_timed : (call : Option (Call State Op Query Reply)) → next_call th ≡ call → IsTimed (act b c t th call th.phase)
  act_timed None e = time
  act_timed (Some (Update op)) e = update_timed op e th.phase refl
  act_timed (Some (Ask query)) e = ask_timed query e th.phase refl

pub step_timed : {State Op Query Reply : Type 0} (b : Behaviour State Op Query Reply) (count : ℕ) (c : CoreState State Op Query Reply) → IsConsistent count c → IsTimed c → (t : ℕ) → IsTimed (step_of b c t)
step_timed {State} {Op} {Query} {Reply} b count c k time t = by_thread (slice_get c.threads t) refl
  where
    by_thread : (o : Option (CoreThread State Op Query Reply)) → slice_get c.threads t ≡ o → IsTimed (step_by b c t o)
    by_thread None e = time
    by_thread (Some th) e = act_timed b count c k time t th e (next_call th) refl

-- where no call has begun there is nothing to keep
pub fresh_timed : {State Op Query Reply : Type 0} (c : CoreState State Op Query Reply) → IsFreshCore c → IsTimed c
fresh_timed {State} {Op} {Query} {Reply} c fresh = record {
  past = λ t i x a h. absurd (none t i x a h);
  begun = fresh.began;
  pairs = λ t i u j x y a b h k l. absurd (none t i x a h);
  ahead = λ t i u x a w h e l. absurd (none t i x a h);
  nodes = λ t i x a h. absurd (none t i x a h);
  rising = λ t i j x y a b h k l. absurd (none t i x a h);
  turns = λ t i j x y a b h k l. absurd (none t i x a h);
  last_turn = λ t i x a th h e busy. absurd (none t i x a h);
  moments = λ t i u j x y a b h k e. absurd (none t i x a h);
}
  where
    none : (t i : ℕ) (x : Call State Op Query Reply) (a : Returned State Op Query Reply) → IsPast c t i x a → ⊥
    none t i x a h = some_not_none a (sym h.here ∙ ap (λ (l : List (Returned State Op Query Reply)). slice_get l i) (fresh.returned t h.thread h.there))
