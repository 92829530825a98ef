use Rattle.std.proofs.Common.{◌≡◌, ◌≢◌, ℕ, suc, ◌+◌, ◌-◌, ◌*◌, ◌<◌, ◌≤◌, ◌==◌, ◌⊎◌, inl, inr, Bool, true, false, true≢false, cond, List, [], ◌∷◌, ◌++◌, length, take, set, Option, Some, None, refl, sym, ap, ◌∙◌, subst, arith, eq-eqb, ne_eqb}
use Rattle.std.proofs.lemmas.Bool.{leb-true, leb-false}
use Rattle.std.proofs.lemmas.List.Sums.{sum_by-append}
use Rattle.std.specs.Prelude.{nat_le}
use Rattle.std.specs.List.{slice_get}
use mathlib.Core.Logic.{dite}
use native.Mathlib.Decide.{ℕ_discrete}
use Rattle.onll_model.specs.declared.call.Call.{Call}
use Rattle.onll_model.specs.declared.call.Call.TheVariants.{Update, Ask}
use Rattle.onll_model.specs.Object.{Behaviour}
use Rattle.onll_model.specs.Trace.{reply_after}
use Rattle.onll_model.specs.Frames.{is_available, AreApart}
use Rattle.onll_model.proofs.Lists.{same_some, inside, at_before, at_end, set_here, set_else}
use Rattle.onll_model.proofs.FrameSteps.{apart_more}
use Rattle.onll_model.proofs.FrameLogs.{window_few}
use Rattle.onll_pmem.specs.Device.{Write, WriteBack, after_step}
use Rattle.onll_core.specs.declared.phase.Phase.{Phase}
use Rattle.onll_core.specs.declared.phase.Phase.TheVariants as phases
use Rattle.onll_core.specs.declared.returned.Returned.{Returned}
use Rattle.onll_core.specs.declared.returned.Current.TheVariants as currents
use Rattle.onll_core.specs.Core.{CoreThread, CoreState}
use Rattle.onll_core.specs.CoreFrame.{frame_of}
use Rattle.onll_core.specs.Step.{turned, on_device, logged, returning, put, line_of_entry, after_flag, act, next_call, step_by, step_of, steps_of}
use Rattle.onll_core.specs.Consistent.{IsConsistent}
use Rattle.onll_core.specs.Outcomes.{current_in, current_of}
use Rattle.onll_core.specs.Returns.{own_steps, HasReturned}
use Rattle.onll_core.proofs.Phases.{if_case, follows_at, own_place, walk_size, window_size}
use Rattle.onll_core.proofs.Kept.{step_consistent, steps_consistent}

-- An ordered update returns after few steps of its thread.

-- the steps that an ordered thread among so many still makes, at most
abbrev pub steps_left : ℕ → Phase → ℕ
steps_left n phases.Idle = 0
steps_left n (phases.Tail l) = 0
steps_left n (phases.Exchange l) = 0
steps_left n (phases.Flag p d) = 3 * n + 5 - (p - d)
steps_left n (phases.Line p d k) = 2 * (p - d - k) + 4
steps_left n (phases.Back p d k) = 2 * (p - d - k) + 3
steps_left n (phases.Fence p d) = 2
steps_left n (phases.Set p d) = 1
steps_left n (phases.Ask f d) = 0

-- The update of this number of thread t has returned at the place, or it is ordered there with at most so many steps left.
data Waits {State Op Query Reply : Type 0} (count : ℕ) (c : CoreState State Op Query Reply) (t number place left : ℕ) : Type 0 where
  over : HasReturned c t number place → Waits count c t number place left
  waiting : (th : CoreThread State Op Query Reply) → slice_get c.threads t ≡ Some th → length th.returned ≡ number → (op : Op) → next_call th ≡ Some (Update op) → current_of th ≡ currents.Ordered place → steps_left count th.phase ≤ left → Waits count c t number place left

-- an ordered thread has between one step and 3 * count + 4 steps left
left_bounds : {State Op Query Reply : Type 0} (count : ℕ) (c : CoreState State Op Query Reply) → IsConsistent count c → (t : ℕ) (th : CoreThread State Op Query Reply) → slice_get c.threads t ≡ Some th
    → (ph : Phase) → th.phase ≡ ph → (place : ℕ) → current_in ph ≡ currents.Ordered place → (1 ≤ steps_left count ph) × (steps_left count ph ≤ 3 * count + 4)
left_bounds count c k t th at phases.Idle e place o = absurd (cc)
left_bounds count c k t th at (phases.Tail l) e place o = absurd (cc)
left_bounds count c k t th at (phases.Exchange l) e place o = absurd (cc)
left_bounds count c k t th at (phases.Flag p d) e place o = let w = walk_size count c k t th at p d e in let a = w.0 in let b = w.1 in (omega arith, omega arith)
left_bounds count c k t th at (phases.Line p d j) e place o = let w = window_size count c k t th at (phases.Line p d j) e p d refl refl in let a = w.0 in let b = w.1 in (omega arith, omega arith)
left_bounds count c k t th at (phases.Back p d j) e place o = let w = window_size count c k t th at (phases.Back p d j) e p d refl refl in let a = w.0 in let b = w.1 in (omega arith, omega arith)
left_bounds count c k t th at (phases.Fence p d) e place o = (omega arith, omega arith)
left_bounds count c k t th at (phases.Set p d) e place o = (omega arith, omega arith)
left_bounds count c k t th at (phases.Ask f d) e place o = absurd (cc)

module _ {State Op Query Reply : Type 0} (b : Behaviour State Op Query Reply) (count : ℕ) (c : CoreState State Op Query Reply) (k : IsConsistent count c) (t : ℕ) (th : CoreThread State Op Query Reply) (at : slice_get c.threads t ≡ Some th) (op : Op) (is : next_call th ≡ Some (Update op)) where
  -- a step that returns nothing has fewer steps left
  nearer : (w : CoreThread State Op Query Reply) (left place : ℕ) → w.returned ≡ th.returned → w.script ≡ th.script → current_of w ≡ currents.Ordered place → suc (steps_left count w.phase) ≤ suc left → Waits count (put c t w) t (length th.returned) place left
  nearer w left place returned script now less = waiting w (set_here c.threads t w th at) (ap length returned) op ((λ i. slice_get (script i) (length (returned i))) ∙ is) now (omega arith)

  -- the walk reaches a set flag or the base, or goes on
  walk_nearer : (p d left : ℕ) → th.phase ≡ phases.Flag p d → steps_left count (phases.Flag p d) ≤ suc left → (flag : Bool) → is_available c.flags d ≡ flag → Waits count (put c t (turned th (after_flag c.base p d flag))) t (length th.returned) p left
  walk_nearer p d left e few true flag = let w = walk_size count c k t th at p d e in let a = w.0 in let b = w.1 in nearer (turned th (phases.Line p d 0)) left p refl refl refl (omega arith)
  walk_nearer p d left e few false unset =
      let w = walk_size count c k t th at p d e in
      let a = w.0 in
      let b = w.1 in
      let fol = follows_at count c k t th at (phases.Flag p d) e in
      let high = (own_place count c k t th at p (ap current_in e)).1 in
      let low : c.base < d = dite (native.Mathlib.Decide.dec_le d c.base) (λ le. absurd (true≢false (sym (k.based.available d le) ∙ unset))) (λ gt. omega arith) in
      if_case (λ (ph : Phase). Waits count (put c t (turned th ph)) t (length th.returned) p left) (nat_le d (c.base + 1)) (phases.Line p c.base 0) (phases.Flag p (d - 1))
      (λ le. let l = leb-true d (c.base + 1) le in
      let first : d ≡ suc c.base = omega arith in
      let apart = apart_more count (frame_of c) k.sound c.base p (sym (ap (is_available c.flags) first) ∙ unset) (subst (λ (z : ℕ). AreApart c.trace z p) first fol.3) in
      let size = window_few count (frame_of c) c.base p k.sound (omega arith) high apart in
      nearer (turned th (phases.Line p c.base 0)) left p refl refl refl (omega arith))
      (λ gt. let l = leb-false d (c.base + 1) gt in nearer (turned th (phases.Flag p (d - 1))) left p refl refl refl (omega arith))

  own_step_by : (ph : Phase) → th.phase ≡ ph → (place left : ℕ) → current_in ph ≡ currents.Ordered place → steps_left count ph ≤ suc left → Waits count (act b c t th (Some (Update op)) ph) t (length th.returned) place left
  own_step_by phases.Idle e place left o few = absurd (cc)
  own_step_by (phases.Tail l) e place left o few = absurd (cc)
  own_step_by (phases.Exchange l) e place left o few = absurd (cc)
  own_step_by (phases.Flag p d) e place left o few = let same : p ≡ place = (cc) in subst (λ (z : ℕ). Waits count (put c t (turned th (after_flag c.base p d (is_available c.flags d)))) t (length th.returned) z left) same (walk_nearer p d left e few (is_available c.flags d) refl)
  own_step_by (phases.Line p d j) e place left o few = nearer (on_device th (after_step th.device (Write (th.used + j) (line_of_entry th c.trace p d j))) (phases.Back p d j)) left place refl refl o (omega arith)
  own_step_by (phases.Back p d j) e place left o few = if_case (λ (ph : Phase). Waits count (put c t (on_device th (after_step th.device (WriteBack (th.used + j))) ph)) t (length th.returned) place left) (nat_le (suc j) (p - d)) (phases.Line p d (suc j)) (phases.Fence p d)
      (λ le. let l = leb-true (suc j) (p - d) le in nearer (on_device th (after_step th.device (WriteBack (th.used + j))) (phases.Line p d (suc j))) left place refl refl o (omega arith))
      (λ gt. nearer (on_device th (after_step th.device (WriteBack (th.used + j))) (phases.Fence p d)) left place refl refl o (omega arith))
  own_step_by (phases.Fence p d) e place left o few = nearer (logged th (p - d) (phases.Set p d)) left place refl refl o (omega arith)
  own_step_by (phases.Set p d) e place left o few =
      let reply : Reply = reply_after b c.initial (take (p - 1) c.trace) op in
      let w : CoreThread State Op Query Reply = returning th p reply th.began c.clock in
      let r : Returned State Op Query Reply = record { place = p; reply = reply; began = th.began; ended = c.clock } in
      over record { thread = w; there = set_here c.threads t w th at; call = r; here = at_end th.returned r; at = (cc) }
  own_step_by (phases.Ask f d) e place left o few = absurd (cc)

  own_step : (place left : ℕ) → current_of th ≡ currents.Ordered place → steps_left count th.phase ≤ suc left → Waits count (step_of b c t) t (length th.returned) place left
  own_step place left o few = let same : step_of b c t ≡ act b c t th (Some (Update op)) th.phase = ap (step_by b c t) at ∙ ap (λ (call : Option (Call State Op Query Reply)). act b c t th call th.phase) is in
      subst (λ (z : CoreState State Op Query Reply). Waits count z t (length th.returned) place left) (sym same) (own_step_by th.phase refl place left o few)

-- A step of a thread changes its own part alone, and loses no returned call.
abbrev IsOwnStep : {State Op Query Reply : Type 0} → CoreState State Op Query Reply → CoreState State Op Query Reply → ℕ → CoreThread State Op Query Reply → Type 0
IsOwnStep {State = State} {Op = Op} {Query = Query} {Reply = Reply} c next t th = (next.threads ≡ c.threads)
    ⊎ ((w : CoreThread State Op Query Reply) × (next.threads ≡ set c.threads t w) × ((i : ℕ) (r : Returned State Op Query Reply) → slice_get th.returned i ≡ Some r → slice_get w.returned i ≡ Some r))

module _ {State Op Query Reply : Type 0} (b : Behaviour State Op Query Reply) (c : CoreState State Op Query Reply) (t : ℕ) (th : CoreThread State Op Query Reply) where
  more : (x : Returned State Op Query Reply) (i : ℕ) (r : Returned State Op Query Reply) → slice_get th.returned i ≡ Some r → slice_get (th.returned ++ x ∷ []) i ≡ Some r
  more x i r e = at_before th.returned (x ∷ []) i (inside th.returned i r e) ∙ e

  own_act : (call : Option (Call State Op Query Reply)) (ph : Phase) → IsOwnStep c (act b c t th call ph) t th
  own_act None ph = inl refl
  own_act (Some (Update op)) phases.Idle = inr (_, refl, λ i r e. e)
  own_act (Some (Update op)) (phases.Tail l) = inr (_, refl, λ i r e. e)
  own_act (Some (Update op)) (phases.Exchange l) = if_case (λ d. IsOwnStep c d t th) (length c.trace == l) _ _ (λ _. inr (_, refl, λ i r e. e)) (λ _. inr (_, refl, λ i r e. e))
  own_act (Some (Update op)) (phases.Flag p d) = inr (_, refl, λ i r e. e)
  own_act (Some (Update op)) (phases.Line p d j) = inr (_, refl, λ i r e. e)
  own_act (Some (Update op)) (phases.Back p d j) = inr (_, refl, λ i r e. e)
  own_act (Some (Update op)) (phases.Fence p d) = inr (_, refl, λ i r e. e)
  own_act (Some (Update op)) (phases.Set p d) = inr (_, refl, more _)
  own_act (Some (Update op)) (phases.Ask f d) = inl refl
  own_act (Some (Ask query)) phases.Idle = if_case (λ d. IsOwnStep c d t th) (nat_le (length c.trace) c.base) _ _ (λ _. inr (_, refl, more _)) (λ _. inr (_, refl, λ i r e. e))
  own_act (Some (Ask query)) (phases.Ask f d) = if_case (λ x. IsOwnStep c x t th) (is_available c.flags d) _ _ (λ _. inr (_, refl, more _))
      (λ _. if_case (λ x. IsOwnStep c x t th) (nat_le d (c.base + 1)) _ _ (λ _. inr (_, refl, more _)) (λ _. inr (_, refl, λ i r e. e)))
  own_act (Some (Ask query)) (phases.Tail l) = inl refl
  own_act (Some (Ask query)) (phases.Exchange l) = inl refl
  own_act (Some (Ask query)) (phases.Flag p d) = inl refl
  own_act (Some (Ask query)) (phases.Line p d j) = inl refl
  own_act (Some (Ask query)) (phases.Back p d j) = inl refl
  own_act (Some (Ask query)) (phases.Fence p d) = inl refl
  own_act (Some (Ask query)) (phases.Set p d) = inl refl

-- what a thread is after a step of thread u
record IsStill {State Op Query Reply : Type 0} (next : CoreState State Op Query Reply) (u t : ℕ) (th : CoreThread State Op Query Reply) : Type 0 where
  pub thread : CoreThread State Op Query Reply
  pub there : slice_get next.threads t ≡ Some thread
  pub kept : (i : ℕ) (r : Returned State Op Query Reply) → slice_get th.returned i ≡ Some r → slice_get thread.returned i ≡ Some r
  pub same : u ≢ t → thread ≡ th

-- one step more
own_first : (t u : ℕ) (ts : List ℕ) → own_steps t (u ∷ ts) ≡ cond {A = ℕ} (u == t) 1 0 + own_steps t ts
own_first t u ts = let h = sum_by-append (λ (v : ℕ). cond (v == t) 1 0) (u ∷ []) ts in omega arith

module _ {State Op Query Reply : Type 0} (b : Behaviour State Op Query Reply) where
  still : (c next : CoreState State Op Query Reply) (u t : ℕ) (tu th : CoreThread State Op Query Reply) → IsOwnStep c next u tu → slice_get c.threads u ≡ Some tu → slice_get c.threads t ≡ Some th → IsStill next u t th
  still c next u t tu th (inl e) there at = record { thread = th; there = ap (λ (l : List (CoreThread State Op Query Reply)). slice_get l t) e ∙ at; kept = λ i r e. e; same = λ _. refl }
  still c next u t tu th (inr x) there at = dite (ℕ_discrete t u)
      (λ is. let same = same_some tu th (sym there ∙ (ap (slice_get c.threads) (sym is) ∙ at)) in record {
        thread = x.0;
        there = (λ i. slice_get (x.1 i) (is i)) ∙ set_here c.threads u x.0 tu there;
        kept = subst (λ (z : CoreThread State Op Query Reply). (i : ℕ) (r : Returned State Op Query Reply) → slice_get z.returned i ≡ Some r → slice_get (x.0).returned i ≡ Some r) same x.2;
        same = λ not. absurd (not (sym is));
      })
      (λ not. record { thread = th; there = ap (λ (l : List (CoreThread State Op Query Reply)). slice_get l t) x.1 ∙ (set_else c.threads u t x.0 not ∙ at); kept = λ i r e. e; same = λ _. refl })

  step_still : (c : CoreState State Op Query Reply) (u t : ℕ) (th : CoreThread State Op Query Reply) → slice_get c.threads t ≡ Some th → IsStill (step_of b c u) u t th
  step_still c u t th at = by (slice_get c.threads u) refl
    where
      by : (o : Option (CoreThread State Op Query Reply)) → slice_get c.threads u ≡ o → IsStill (step_by b c u o) u t th
      by None e = record { thread = th; there = at; kept = λ i r e. e; same = λ _. refl }
      by (Some tu) e = still c (act b c u tu (next_call tu) tu.phase) u t tu th (own_act b c u tu (next_call tu) tu.phase) e at

  step_returned : (c : CoreState State Op Query Reply) (u t number place : ℕ) → HasReturned c t number place → HasReturned (step_of b c u) t number place
  step_returned c u t number place h = let s = step_still c u t h.thread h.there in record { thread = s.thread; there = s.there; call = h.call; here = s.kept number h.call h.here; at = h.at }

  step_waits : (count : ℕ) (c : CoreState State Op Query Reply) → IsConsistent count c → (t number place left u : ℕ) → Waits count c t number place (cond {A = ℕ} (u == t) 1 0 + left) → Waits count (step_of b c u) t number place left
  step_waits count c k t number place left u (over h) = over (step_returned c u t number place h)
  step_waits count c k t number place left u (waiting th at len op is now few) = dite (ℕ_discrete u t)
      (λ same. let one : cond {A = ℕ} (u == t) 1 0 ≡ 1 = ap (λ (z : Bool). cond {A = ℕ} z 1 0) (eq-eqb u t same) in
      subst (λ (z : ℕ × ℕ). Waits count (step_of b c z.0) t z.1 place left) (λ i. (sym same i, len i)) (own_step b count c k t th at op is place left now (omega arith)))
      (λ not. let none : cond {A = ℕ} (u == t) 1 0 ≡ 0 = ap (λ (z : Bool). cond {A = ℕ} z 1 0) (ne_eqb u t not) in let s = step_still c u t th at in waiting th (s.there ∙ ap Some (s.same not)) len op is now (omega arith))

  steps_wait : (count : ℕ) (c : CoreState State Op Query Reply) → IsConsistent count c → (t number place : ℕ) (ts : List ℕ) → Waits count c t number place (own_steps t ts) → Waits count (steps_of b c ts) t number place 0
  steps_wait count c k t number place [] w = w
  steps_wait count c k t number place (u ∷ ts) w = steps_wait count (step_of b c u) (step_consistent b count c u k) t number place ts (step_waits count c k t number place (own_steps t ts) u (subst (Waits count c t number place) (own_first t u ts) w))

  waited : (count : ℕ) (c : CoreState State Op Query Reply) → IsConsistent count c → (t number place : ℕ) → Waits count c t number place 0 → HasReturned c t number place
  waited count c k t number place (over h) = h
  waited count c k t number place (waiting th at len op is now few) = let least = (left_bounds count c k t th at th.phase refl place now).0 in absurd (omega arith)

  -- Whatever the others do, an ordered update has returned after 3 * count + 4 steps of its thread.
  pub returns_in_time : (count : ℕ) (c : CoreState State Op Query Reply) → IsConsistent count c → (t place : ℕ) (th : CoreThread State Op Query Reply) → slice_get c.threads t ≡ Some th → (op : Op) → next_call th ≡ Some (Update op) → current_of th ≡ currents.Ordered place
      → (ts : List ℕ) → 3 * count + 4 ≤ own_steps t ts → HasReturned (steps_of b c ts) t (length th.returned) place
  returns_in_time count c k t place th at op is now ts enough = let most = (left_bounds count c k t th at th.phase refl place now).1 in
      waited count (steps_of b c ts) (steps_consistent b count c ts k) t (length th.returned) place (steps_wait count c k t (length th.returned) place ts (waiting th at refl op is now (omega arith)))
