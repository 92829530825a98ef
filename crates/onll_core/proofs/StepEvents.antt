use Rattle.std.proofs.Common.{ℕ, suc, ◌≡◌, ◌≢◌, ◌+◌, ◌-◌, ◌<◌, ◌≤◌, Bool, true, false, List, [], ◌∷◌, ◌++◌, length, take, Option, Some, None, sym, refl, ap, ◌∙◌, subst, arith, true≢false, eq-eqb, ne_eqb}
use Rattle.std.proofs.lemmas.Bool.{le-leb, lt-leb}
use Rattle.std.specs.Prelude.{if◌then◌else◌, nat_le}
use Rattle.std.specs.List.{slice_get}
use mathlib.Core.Logic.{dite}
use native.Mathlib.Decide.{ℕ_discrete}
use Rattle.onll_words.specs.declared.line.OpRow.{OpRow}
use Rattle.onll_model.specs.declared.node.Node.{Node}
use Rattle.onll_model.specs.declared.call.Call.{Call}
use Rattle.onll_model.specs.declared.call.Call.TheVariants.{Update, Ask}
use Rattle.onll_model.specs.Object.{Behaviour}
use Rattle.onll_model.specs.Trace.{reply_after, answer_after}
use Rattle.onll_model.specs.Segment.{Segment}
use Rattle.onll_model.specs.Frames.{Frame, Thread, Rest, Loaded, Walk, Logging, Fenced, Asking, is_available, Follows, IsAvailable}
use Rattle.onll_model.specs.Events.{Event, UpdateTail, Won, Lost, FlagSet, FlagUnset, Set, ReadTail, thread_of, window, with_thread, with_flag, with_node, doing, resting_at, logging, next_node, after_by, after}
use Rattle.onll_model.specs.Events.{Fence as FenceEvent}
use Rattle.onll_model.proofs.FrameParts.{in_trace}
use Rattle.onll_pmem.specs.Device.{Write, WriteBack, after_step}
use Rattle.onll_log.specs.Encoding.{FitsEntry}
use Rattle.onll_core.specs.declared.phase.Phase.{Phase}
use Rattle.onll_core.specs.declared.phase.Phase.TheVariants as phases
use Rattle.onll_core.specs.Core.{CoreThread, CoreState}
use Rattle.onll_core.specs.CoreFrame.{seen_in, pending_in, activity_in, fenced_entries, thread_at, frame_thread, frame_of}
use Rattle.onll_core.specs.Step.{turned, begun, on_device, logged, returning, put, linked, flagged, line_of_entry, after_exchange, after_flag, answered, act, next_call, step_by, step_of}
use Rattle.onll_core.specs.Tie.{IsTiedDevice}
use Rattle.onll_core.specs.Consistent.{IsConsistent}
use Rattle.onll_core.specs.StepEvent.{event_at, event_by, event_of, IsEvent}
use Rattle.onll_core.proofs.Calls.{update_left}
use Rattle.onll_core.proofs.CoreFrames.{seen_snoc, part_at, frame_put, frame_still, frame_flagged, frame_linked}
use Rattle.onll_core.proofs.Windows.{window_of}
use Rattle.onll_core.proofs.Ties.{fenced_is_log, tie_fenced}

-- Each step is its event.

module _ {State Op Query Reply : Type 0} (b : Behaviour State Op Query Reply) (count : ℕ) (c : CoreState State Op Query Reply) (k : IsConsistent count c) (t : ℕ) (th : CoreThread State Op Query Reply) (at : slice_get c.threads t ≡ Some th) where
  abbrev f : Frame
  f = frame_of c

  abbrev part : Phase → Thread
  part ph = thread_at c.base c.trace th ph

  -- an event of the thread
  after_event : (ph : Phase) → th.phase ≡ ph → (e : Event) → thread_of e ≡ t → after c.base f e ≡ after_by c.base f e (Some (part ph))
  after_event ph is e own = ap (after_by c.base f e) (ap (slice_get f.threads) own ∙ part_at c t th at ph is)

  pub tie_at : (ph : Phase) → th.phase ≡ ph → IsTiedDevice count t (pending_in c.trace ph) th ph
  tie_at ph e = subst (λ (z : Phase). IsTiedDevice count t (pending_in c.trace z) th z) e (k.tied t th at)

  follows : (ph : Phase) → th.phase ≡ ph → Follows c.trace (seen_in c.base th.returned) (activity_in ph)
  follows ph e = k.sound.follows t (part ph) (part_at c t th at ph e)

  seen : IsAvailable f (seen_in c.base th.returned)
  seen = k.sound.seen t (part th.phase) (part_at c t th at th.phase refl)

  -- an unset flag is above the base
  above : (d : ℕ) → is_available c.flags d ≡ false → c.base < d
  above d unset = dite (native.Mathlib.Decide.dec_le d c.base) (λ le. absurd (true≢false (sym (k.based.available d le) ∙ unset))) (λ gt. omega arith)

  abbrev Is : CoreState State Op Query Reply → Option Event → Type 0
  Is c' e = IsEvent c c' e

  -- ---- the exchange
  won : (op : Op) (l : ℕ) → th.phase ≡ phases.Exchange l → length c.trace ≡ l → Is (linked c t (next_node c.trace t (b.row_of op)) (turned th (after_exchange c.base l))) (Some (Won t (b.row_of op)))
  won op l is size =
      let row : OpRow = b.row_of op in
      let x : Node = next_node c.trace t row in
      let long : List Node = c.trace ++ x ∷ [] in
      let v : Thread = part (phases.Exchange l) in
      let low = k.based.long in
      record {
        frame = frame_linked c count k.sound t x (turned th (after_exchange c.base l)) ∙ (ap (with_thread (with_node f x) t) (dite (ℕ_discrete l c.base)
            (λ same. let first : length c.trace ≡ c.base = size ∙ same in
            ap (λ (q : Bool). frame_thread c.base long (turned th (if q then phases.Line (l + 1) l 0 else phases.Flag (l + 1) l))) (le-leb l c.base (omega arith)) ∙
            ((λ i. record { seen = v.seen; fenced = v.fenced; pending = Some (window long (same i) (back size i + 1)); stuck = None; activity = Logging (back size i + 1) (back size i + 1 - same i) }) ∙
            ap (λ (q : Bool). if q then logging v long c.base (length c.trace + 1) else doing v (Walk (length c.trace + 1) (length c.trace))) (sym (eq-eqb (length c.trace) c.base first))))
            (λ other. ap (λ (q : Bool). frame_thread c.base long (turned th (if q then phases.Line (l + 1) l 0 else phases.Flag (l + 1) l))) (lt-leb l c.base (omega arith)) ∙
            ((λ i. doing v (Walk (back size i + 1) (back size i))) ∙
            ap (λ (q : Bool). if q then logging v long c.base (length c.trace + 1) else doing v (Walk (length c.trace + 1) (length c.trace))) (sym (ne_eqb (length c.trace) c.base (λ e. other (sym size ∙ e)))))))
            ∙ sym (after_event (phases.Exchange l) is (Won t row) refl));
        may = record { thread = v; here = part_at c t th at (phases.Exchange l) is; allowed = ap Loaded (sym size) };
      }
    where
      back : {x y : ℕ} → x ≡ y → y ≡ x
      back e = sym e

  lost : (l : ℕ) → th.phase ≡ phases.Exchange l → length c.trace ≢ l → Is (put c t (turned th (phases.Tail l))) (Some (Lost t))
  lost l is other = let fol = follows (phases.Exchange l) is in let high = fol.1 in record {
    frame = frame_still c t th (turned th (phases.Tail l)) at (sym (ap part is)) ∙ sym (after_event (phases.Exchange l) is (Lost t) refl);
    may = record { thread = part (phases.Exchange l); here = part_at c t th at (phases.Exchange l) is; allowed = (l, refl, omega arith) };
  }

  -- ---- the walk
  walked : (p d : ℕ) → th.phase ≡ phases.Flag p d → (q : Bool) → is_available c.flags d ≡ q → Is (put c t (turned th (after_flag c.base p d q))) (if q then Some (FlagSet t) else Some (FlagUnset t))
  walked p d is true set = record {
    frame = frame_put c t (turned th (phases.Line p d 0)) ∙ sym (after_event (phases.Flag p d) is (FlagSet t) refl);
    may = record { thread = part (phases.Flag p d); here = part_at c t th at (phases.Flag p d) is; allowed = set };
  }
  walked p d is false unset =
      let v : Thread = part (phases.Flag p d) in
      let low = above d unset in
      record {
        frame = frame_put c t (turned th (after_flag c.base p d false)) ∙ (ap (with_thread f t) (dite (ℕ_discrete d (c.base + 1))
            (λ same. ap (λ (q : Bool). frame_thread c.base c.trace (turned th (if q then phases.Line p c.base 0 else phases.Flag p (d - 1)))) (le-leb d (c.base + 1) (omega arith)) ∙
            ap (λ (q : Bool). if q then logging v c.trace c.base p else doing v (Walk p (d - 1))) (sym (eq-eqb d (c.base + 1) same)))
            (λ other. ap (λ (q : Bool). frame_thread c.base c.trace (turned th (if q then phases.Line p c.base 0 else phases.Flag p (d - 1)))) (lt-leb d (c.base + 1) (omega arith)) ∙
            ap (λ (q : Bool). if q then logging v c.trace c.base p else doing v (Walk p (d - 1))) (sym (ne_eqb d (c.base + 1) other))))
            ∙ sym (after_event (phases.Flag p d) is (FlagUnset t) refl));
        may = record { thread = v; here = part_at c t th at (phases.Flag p d) is; allowed = unset };
      }

  -- ---- the log
  -- the entry that is fenced
  pub fence_tie : (op : Op) → next_call th ≡ Some (Update op) → (p d : ℕ) → (is : th.phase ≡ phases.Fence p d)
      → (tie' : IsTiedDevice count t None (logged th (p - d) (phases.Set p d)) (phases.Set p d)) × (tie'.log ≡ (tie_at (phases.Fence p d) is).log ++ window c.trace d p ∷ [])
  fence_tie op call p d is =
      let g : Segment = window c.trace d p in
      let w = window_of count c k t th at p d (ap (pending_in c.trace) is) in
      let tie = tie_at (phases.Fence p d) is in
      let threads = tie.own.1 in
      let few = w.few in
      tie_fenced count t th g p d tie w.size (subst (λ (n : ℕ). FitsEntry n g) (sym threads) w.fits) (update_left th.script (length th.returned) op call) (omega arith)

  fenced : (op : Op) → next_call th ≡ Some (Update op) → (p d : ℕ) → th.phase ≡ phases.Fence p d → Is (put c t (logged th (p - d) (phases.Set p d))) (Some (FenceEvent t))
  fenced op call p d is =
      let g : Segment = window c.trace d p in
      let w : CoreThread State Op Query Reply = logged th (p - d) (phases.Set p d) in
      let tie' = fence_tie op call p d is in
      let log : fenced_entries w.head w.device ≡ fenced_entries th.head th.device ++ g ∷ [] = fenced_is_log count t w None (phases.Set p d) tie'.0 ∙
      (tie'.1 ∙ ap (λ (l : List Segment). l ++ g ∷ []) (sym (fenced_is_log count t th (Some g) (phases.Fence p d) (tie_at (phases.Fence p d) is)))) in
      record {
        frame = frame_put c t w ∙ (ap (with_thread f t) (λ i. record { seen = seen_in c.base th.returned; fenced = log i; pending = None; stuck = None; activity = Fenced p (p - d) }) ∙ sym (after_event (phases.Fence p d) is (FenceEvent t) refl));
        may = record { thread = part (phases.Fence p d); here = part_at c t th at (phases.Fence p d) is; allowed = (p, p - d, refl) };
      }

  -- ---- a call returns
  at_rest : (place : ℕ) (reply : Reply) (began : ℕ) → seen_in c.base th.returned ≤ place
      → frame_thread c.base c.trace (returning th place reply began c.clock) ≡ record { seen = place; fenced = fenced_entries th.head th.device; pending = None; stuck = None; activity = Rest }
  at_rest place reply began low = let e = seen_snoc c.base th.returned (record { place = place; reply = reply; began = began; ended = c.clock }) low in
      λ i. record { seen = e i; fenced = fenced_entries th.head th.device; pending = None; stuck = None; activity = Rest }

  has_set : (p d : ℕ) → th.phase ≡ phases.Set p d → (reply : Reply) → Is (flagged c t p (returning th p reply th.began c.clock)) (Some (Set t))
  has_set p d is reply = let fol = follows (phases.Set p d) is in record {
    frame = frame_flagged c t p (returning th p reply th.began c.clock) ∙ (ap (with_thread (with_flag f p) t) (at_rest p reply th.began (omega arith)) ∙ sym (after_event (phases.Set p d) is (Set t) refl));
    may = record { thread = part (phases.Set p d); here = part_at c t th at (phases.Set p d) is; allowed = (p, p - d, refl) };
  }

  asked : (query : Query) → th.phase ≡ phases.Idle → Is (act b c t th (Some (Ask query)) phases.Idle) (Some (ReadTail t))
  asked query is =
      let l : ℕ = length c.trace in
      let v : Thread = part phases.Idle in
      let long = k.based.long in
      let high = in_trace count f k.sound (seen_in c.base th.returned) seen in
      let first : CoreState State Op Query Reply = answered b c t th c.clock c.base query in
      let other_state : CoreState State Op Query Reply = put c t (begun th c.clock (phases.Ask l l)) in
      record {
        frame = dite (ℕ_discrete l c.base)
            (λ same. ap (λ (q : Bool). frame_of (if q then first else other_state)) (le-leb l c.base (omega arith)) ∙
            (frame_put c t (returning th c.base (answer_after b c.initial (take c.base c.trace) query) c.clock c.clock) ∙
            (ap (with_thread f t) (at_rest c.base (answer_after b c.initial (take c.base c.trace) query) c.clock (omega arith) ∙
            ap (λ (q : Bool). if q then resting_at v c.base else doing v (Asking l l)) (sym (eq-eqb l c.base same))) ∙ sym (after_event phases.Idle is (ReadTail t) refl))))
            (λ other. ap (λ (q : Bool). frame_of (if q then first else other_state)) (lt-leb l c.base (omega arith)) ∙
            (frame_put c t (begun th c.clock (phases.Ask l l)) ∙
            (ap (with_thread f t) (ap (λ (q : Bool). if q then resting_at v c.base else doing v (Asking l l)) (sym (ne_eqb l c.base other))) ∙ sym (after_event phases.Idle is (ReadTail t) refl))));
        may = record { thread = v; here = part_at c t th at phases.Idle is; allowed = refl };
      }

  looked : (query : Query) (g d : ℕ) → th.phase ≡ phases.Ask g d → (q : Bool) → is_available c.flags d ≡ q
      → Is (if q then answered b c t th th.began d query else (if nat_le d (c.base + 1) then answered b c t th th.began c.base query else put c t (turned th (phases.Ask g (d - 1))))) (if q then Some (FlagSet t) else Some (FlagUnset t))
  looked query g d is true set = let fol = follows (phases.Ask g d) is in record {
    frame = frame_put c t (returning th d (answer_after b c.initial (take d c.trace) query) th.began c.clock) ∙
        (ap (with_thread f t) (at_rest d (answer_after b c.initial (take d c.trace) query) th.began fol.0) ∙ sym (after_event (phases.Ask g d) is (FlagSet t) refl));
    may = record { thread = part (phases.Ask g d); here = part_at c t th at (phases.Ask g d) is; allowed = set };
  }
  looked query g d is false unset =
      let v : Thread = part (phases.Ask g d) in
      let fol = follows (phases.Ask g d) is in
      let below = fol.0 in
      let not : seen_in c.base th.returned ≢ d = (λ e. true≢false (sym seen ∙ (ap (is_available c.flags) e ∙ unset))) in
      let low = above d unset in
      let last : CoreState State Op Query Reply = answered b c t th th.began c.base query in
      let next : CoreState State Op Query Reply = put c t (turned th (phases.Ask g (d - 1))) in
      record {
        frame = dite (ℕ_discrete d (c.base + 1))
            (λ same. ap (λ (q : Bool). frame_of (if q then last else next)) (le-leb d (c.base + 1) (omega arith)) ∙
            (frame_put c t (returning th c.base (answer_after b c.initial (take c.base c.trace) query) th.began c.clock) ∙
            (ap (with_thread f t) (at_rest c.base (answer_after b c.initial (take c.base c.trace) query) th.began (at_base (seen_in c.base th.returned) d c.base below same not) ∙
            ap (λ (q : Bool). if q then resting_at v c.base else doing v (Asking g (d - 1))) (sym (eq-eqb d (c.base + 1) same))) ∙ sym (after_event (phases.Ask g d) is (FlagUnset t) refl))))
            (λ other. ap (λ (q : Bool). frame_of (if q then last else next)) (lt-leb d (c.base + 1) (omega arith)) ∙
            (frame_put c t (turned th (phases.Ask g (d - 1))) ∙
            (ap (with_thread f t) (ap (λ (q : Bool). if q then resting_at v c.base else doing v (Asking g (d - 1))) (sym (ne_eqb d (c.base + 1) other))) ∙ sym (after_event (phases.Ask g d) is (FlagUnset t) refl))));
        may = record { thread = v; here = part_at c t th at (phases.Ask g d) is; allowed = unset };
      }
    where
      at_base : (x y z : ℕ) → x ≤ y → y ≡ z + 1 → x ≢ y → x ≤ z
      at_base x y z l e n = dite (native.Mathlib.Decide.dec_le x z) (λ le. le) (λ gt. absurd (n (omega arith)))

  -- ---- all steps
  still : (w : CoreThread State Op Query Reply) (ph : Phase) → th.phase ≡ ph → frame_thread c.base c.trace w ≡ part ph → Is (put c t w) None
  still w ph is same = record { frame = frame_still c t th w at (same ∙ sym (ap part is)); may = tt }

  none : Is c None
  none = record { frame = refl; may = tt }

  update_event : (op : Op) → next_call th ≡ Some (Update op) → (ph : Phase) → th.phase ≡ ph → Is (act b c t th (Some (Update op)) ph) (event_at b c t (Some (Update op)) ph)
  update_event op call phases.Idle is = record {
    frame = frame_put c t (begun th c.clock (phases.Exchange (length c.trace))) ∙ sym (after_event phases.Idle is (UpdateTail t) refl);
    may = record { thread = part phases.Idle; here = part_at c t th at phases.Idle is; allowed = (refl, tt) };
  }
  update_event op call (phases.Tail l) is = record {
    frame = frame_put c t (turned th (phases.Exchange (length c.trace))) ∙ sym (after_event (phases.Tail l) is (UpdateTail t) refl);
    may = record { thread = part (phases.Tail l); here = part_at c t th at (phases.Tail l) is; allowed = (refl, tt) };
  }
  update_event op call (phases.Exchange l) is = dite (ℕ_discrete (length c.trace) l)
      (λ size. subst (λ (q : Bool). Is (if q then linked c t (next_node c.trace t (b.row_of op)) (turned th (after_exchange c.base l)) else put c t (turned th (phases.Tail l))) (if q then Some (Won t (b.row_of op)) else Some (Lost t))) (sym (eq-eqb (length c.trace) l size)) (won op l is size))
      (λ other. subst (λ (q : Bool). Is (if q then linked c t (next_node c.trace t (b.row_of op)) (turned th (after_exchange c.base l)) else put c t (turned th (phases.Tail l))) (if q then Some (Won t (b.row_of op)) else Some (Lost t))) (sym (ne_eqb (length c.trace) l other)) (lost l is other))
  update_event op call (phases.Flag p d) is = walked p d is (is_available c.flags d) refl
  update_event op call (phases.Line p d j) is = still (on_device th (after_step th.device (Write (th.used + j) (line_of_entry th c.trace p d j))) (phases.Back p d j)) (phases.Line p d j) is refl
  update_event op call (phases.Back p d j) is = by_last (nat_le (suc j) (p - d))
    where
      by_last : (q : Bool) → Is (put c t (on_device th (after_step th.device (WriteBack (th.used + j))) (if q then phases.Line p d (suc j) else phases.Fence p d))) None
      by_last true = still (on_device th (after_step th.device (WriteBack (th.used + j))) (phases.Line p d (suc j))) (phases.Back p d j) is refl
      by_last false = still (on_device th (after_step th.device (WriteBack (th.used + j))) (phases.Fence p d)) (phases.Back p d j) is refl
  update_event op call (phases.Fence p d) is = fenced op call p d is
  update_event op call (phases.Set p d) is = has_set p d is (reply_after b c.initial (take (p - 1) c.trace) op)
  update_event op call (phases.Ask g d) is = none

  ask_event : (query : Query) → (ph : Phase) → th.phase ≡ ph → Is (act b c t th (Some (Ask query)) ph) (event_at b c t (Some (Ask query)) ph)
  ask_event query phases.Idle is = asked query is
  ask_event query (phases.Ask g d) is = looked query g d is (is_available c.flags d) refl
  ask_event query (phases.Tail l) is = none
  ask_event query (phases.Exchange l) is = none
  ask_event query (phases.Flag p d) is = none
  ask_event query (phases.Line p d j) is = none
  ask_event query (phases.Back p d j) is = none
  ask_event query (phases.Fence p d) is = none
  ask_event query (phases.Set p d) is = none

  pub act_event : (call : Option (Call State Op Query Reply)) → next_call th ≡ call → Is (act b c t th call th.phase) (event_at b c t call th.phase)
  act_event None e = none
  act_event (Some (Update op)) e = update_event op e th.phase refl
  act_event (Some (Ask query)) e = ask_event query th.phase refl

-- the step of a thread is its event
pub step_event : {State Op Query Reply : Type 0} (b : Behaviour State Op Query Reply) (count : ℕ) (c : CoreState State Op Query Reply) (t : ℕ) → IsConsistent count c → IsEvent c (step_of b c t) (event_of b c t)
step_event {State} {Op} {Query} {Reply} b count c t k = by_thread (slice_get c.threads t) refl
  where
    by_thread : (o : Option (CoreThread State Op Query Reply)) → slice_get c.threads t ≡ o → IsEvent c (step_by b c t o) (event_by b c t o)
    by_thread None e = record { frame = refl; may = tt }
    by_thread (Some th) e = act_event b count c k t th e (next_call th) refl
