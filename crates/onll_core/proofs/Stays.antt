use Rattle.std.proofs.Common.{ℕ, zero, suc, ◌≡◌, ◌+◌, ◌-◌, Bool, true, false, List, [], ◌∷◌, ◌++◌, length, get_or, take, set, Option, Some, None, sym, refl, ap, ◌∙◌, subst, arith, append-nil, append_assoc, ◌==◌}
use Rattle.std.proofs.lemmas.List.{length-set}
use Rattle.std.specs.Prelude.{if◌then◌else◌, nat_le}
use Rattle.std.specs.List.{slice_get}
use mathlib.Core.Logic.{dite}
use native.Mathlib.Decide.{ℕ_discrete}
use Rattle.onll_model.specs.declared.node.Node.{Node}
use Rattle.onll_model.specs.declared.call.Call.{Call}
use Rattle.onll_model.specs.declared.call.Call.TheVariants.{Update, Ask}
use Rattle.onll_model.specs.Object.{Behaviour}
use Rattle.onll_model.specs.Trace.{reply_after, answer_after}
use Rattle.onll_model.specs.Frames.{is_available}
use Rattle.onll_model.specs.Events.{next_node}
use Rattle.onll_model.proofs.Lists.{set_here, set_else}
use Rattle.onll_model.proofs.Flags.{available_low, flag_before}
use Rattle.onll_pmem.specs.Device.{Write, WriteBack, after_step}
use Rattle.onll_core.specs.declared.phase.Phase.{Phase}
use Rattle.onll_core.specs.declared.phase.Phase.TheVariants as phases
use Rattle.onll_core.specs.declared.returned.Returned.{Returned}
use Rattle.onll_core.specs.Core.{CoreThread, CoreState}
use Rattle.onll_core.specs.Step.{turned, begun, on_device, logged, returning, put, linked, flagged, line_of_entry, after_exchange, after_flag, answered, act, next_call, step_by, step_of, steps_of}
use Rattle.onll_core.specs.Stays.{ThreadStays, Stays}

-- What each step leaves as it is.

set_true : (fs : List Bool) (i p : ℕ) → get_or fs p false ≡ true → get_or (set fs i true) p false ≡ true
set_true [] i p e = e
set_true (f ∷ fs) zero zero e = refl
set_true (f ∷ fs) zero (suc p) e = e
set_true (f ∷ fs) (suc i) zero e = e
set_true (f ∷ fs) (suc i) (suc p) e = set_true fs i p e

still_set : (fs : List Bool) (i p : ℕ) → is_available fs p ≡ true → is_available (set fs i true) p ≡ true
still_set fs i zero e = refl
still_set fs i (suc p) e = set_true fs i p e

module _ {State Op Query Reply : Type 0} where
  thread_same : (th : CoreThread State Op Query Reply) → ThreadStays th th
  thread_same th = record { head = refl; script = refl; returned = ([], sym (append-nil th.returned)); lines = refl }

  thread_begun : (th : CoreThread State Op Query Reply) (began : ℕ) (ph : Phase) → ThreadStays th (begun th began ph)
  thread_begun th began ph = record { head = refl; script = refl; returned = ([], sym (append-nil th.returned)); lines = refl }

  thread_returns : (th : CoreThread State Op Query Reply) (place : ℕ) (reply : Reply) (began ended : ℕ) → ThreadStays th (returning th place reply began ended)
  thread_returns th place reply began ended = record { head = refl; script = refl; returned = (record { place = place; reply = reply; began = began; ended = ended } ∷ [], refl); lines = refl }

  thread_after : (x y z : CoreThread State Op Query Reply) → ThreadStays x y → ThreadStays y z → ThreadStays x z
  thread_after x y z a b = record {
    head = b.head ∙ a.head;
    script = b.script ∙ a.script;
    returned = (a.returned.0 ++ b.returned.0, b.returned.1 ∙ (ap (λ (rs : List (Returned State Op Query Reply)). rs ++ b.returned.0) a.returned.1 ∙ append_assoc x.returned a.returned.0 b.returned.0));
    lines = b.lines ∙ a.lines;
  }

  pub stays_same : (c : CoreState State Op Query Reply) → Stays c c
  stays_same c = record {
    initial = refl;
    base = refl;
    trace = ([], sym (append-nil c.trace));
    flags = λ p e. e;
    clock = omega arith;
    all_threads = refl;
    threads = λ t th at. (th, at, thread_same th);
  }

  pub stays_after : (x y z : CoreState State Op Query Reply) → Stays x y → Stays y z → Stays x z
  stays_after x y z a b = let c = a.clock in let d = b.clock in record {
    initial = b.initial ∙ a.initial;
    base = b.base ∙ a.base;
    trace = (a.trace.0 ++ b.trace.0, b.trace.1 ∙ (ap (λ (ns : List Node). ns ++ b.trace.0) a.trace.1 ∙ append_assoc x.trace a.trace.0 b.trace.0));
    flags = λ p e. b.flags p (a.flags p e);
    clock = omega arith;
    all_threads = b.all_threads ∙ a.all_threads;
    threads = λ t th at. let v = a.threads t th at in let w = b.threads t v.0 v.1 in (w.0, w.1, thread_after th v.0 w.0 v.2 w.2);
  }

module _ {State Op Query Reply : Type 0} (b : Behaviour State Op Query Reply) (c : CoreState State Op Query Reply) (t : ℕ) (th : CoreThread State Op Query Reply) (at : slice_get c.threads t ≡ Some th) where
  each : (w : CoreThread State Op Query Reply) → ThreadStays th w → (u : ℕ) (z : CoreThread State Op Query Reply) → slice_get c.threads u ≡ Some z
      → (z' : CoreThread State Op Query Reply) × (slice_get (set c.threads t w) u ≡ Some z') × ThreadStays z z'
  each w own u z here = dite (ℕ_discrete u t)
      (λ same. (w, ap (slice_get (set c.threads t w)) same ∙ set_here c.threads t w th at, subst (λ (x : CoreThread State Op Query Reply). ThreadStays x w) (one (sym at ∙ (ap (slice_get c.threads) (sym same) ∙ here))) own))
      (λ other. (z, set_else c.threads t u w other ∙ here, thread_same z))
    where
      one : {x y : CoreThread State Op Query Reply} → Some x ≡ Some y → x ≡ y
      one e = (cc)

  put_stays : (w : CoreThread State Op Query Reply) → ThreadStays th w → Stays c (put c t w)
  put_stays w own = record {
    initial = refl;
    base = refl;
    trace = ([], sym (append-nil c.trace));
    flags = λ p e. e;
    clock = omega arith;
    all_threads = length-set c.threads t w;
    threads = each w own;
  }

  flagged_stays : (p : ℕ) (w : CoreThread State Op Query Reply) → ThreadStays th w → Stays c (flagged c t p w)
  flagged_stays p w own = record {
    initial = refl;
    base = refl;
    trace = ([], sym (append-nil c.trace));
    flags = λ q e. still_set c.flags (p - 1) q e;
    clock = omega arith;
    all_threads = length-set c.threads t w;
    threads = each w own;
  }

  linked_stays : (x : Node) (w : CoreThread State Op Query Reply) → ThreadStays th w → Stays c (linked c t x w)
  linked_stays x w own = record {
    initial = refl;
    base = refl;
    trace = (x ∷ [], refl);
    flags = λ q e. flag_before c.flags (false ∷ []) q (available_low c.flags q e) ∙ e;
    clock = omega arith;
    all_threads = length-set c.threads t w;
    threads = each w own;
  }

  update_stays : (op : Op) (ph : Phase) → Stays c (act b c t th (Some (Update op)) ph)
  update_stays op phases.Idle = put_stays (begun th c.clock (phases.Exchange (length c.trace))) (thread_begun th c.clock (phases.Exchange (length c.trace)))
  update_stays op (phases.Tail l) = put_stays (turned th (phases.Exchange (length c.trace))) (thread_begun th th.began (phases.Exchange (length c.trace)))
  update_stays op (phases.Exchange l) = by_tail (length c.trace == l)
    where
      by_tail : (q : Bool) → Stays c (if q then linked c t (next_node c.trace t (b.row_of op)) (turned th (after_exchange c.base l)) else put c t (turned th (phases.Tail l)))
      by_tail true = linked_stays (next_node c.trace t (b.row_of op)) (turned th (after_exchange c.base l)) (thread_begun th th.began (after_exchange c.base l))
      by_tail false = put_stays (turned th (phases.Tail l)) (thread_begun th th.began (phases.Tail l))
  update_stays op (phases.Flag p d) = let ph : Phase = after_flag c.base p d (is_available c.flags d) in put_stays (turned th ph) (thread_begun th th.began ph)
  update_stays op (phases.Line p d j) = let line : List ℕ = line_of_entry th c.trace p d j in put_stays (on_device th (after_step th.device (Write (th.used + j) line)) (phases.Back p d j))
      (record { head = refl; script = refl; returned = ([], sym (append-nil th.returned)); lines = length-set th.device.read (th.used + j) line })
  update_stays op (phases.Back p d j) = put_stays (on_device th (after_step th.device (WriteBack (th.used + j))) (if nat_le (suc j) (p - d) then phases.Line p d (suc j) else phases.Fence p d))
      (record { head = refl; script = refl; returned = ([], sym (append-nil th.returned)); lines = refl })
  update_stays op (phases.Fence p d) = put_stays (logged th (p - d) (phases.Set p d)) (record { head = refl; script = refl; returned = ([], sym (append-nil th.returned)); lines = refl })
  update_stays op (phases.Set p d) = let reply : Reply = reply_after b c.initial (take (p - 1) c.trace) op in flagged_stays p (returning th p reply th.began c.clock) (thread_returns th p reply th.began c.clock)
  update_stays op (phases.Ask g d) = stays_same c

  answered_stays : (began place : ℕ) (query : Query) → Stays c (answered b c t th began place query)
  answered_stays began place query = let reply : Reply = answer_after b c.initial (take place c.trace) query in put_stays (returning th place reply began c.clock) (thread_returns th place reply began c.clock)

  ask_stays : (query : Query) (ph : Phase) → Stays c (act b c t th (Some (Ask query)) ph)
  ask_stays query phases.Idle = by_base (nat_le (length c.trace) c.base)
    where
      by_base : (q : Bool) → Stays c (if q then answered b c t th c.clock c.base query else put c t (begun th c.clock (phases.Ask (length c.trace) (length c.trace))))
      by_base true = answered_stays c.clock c.base query
      by_base false = put_stays (begun th c.clock (phases.Ask (length c.trace) (length c.trace))) (thread_begun th c.clock (phases.Ask (length c.trace) (length c.trace)))
  ask_stays query (phases.Ask g d) = by_flag (is_available c.flags d) (nat_le d (c.base + 1))
    where
      by_flag : (q r : Bool) → Stays c (if q then answered b c t th th.began d query else (if r then answered b c t th th.began c.base query else put c t (turned th (phases.Ask g (d - 1)))))
      by_flag true r = answered_stays th.began d query
      by_flag false true = answered_stays th.began c.base query
      by_flag false false = put_stays (turned th (phases.Ask g (d - 1))) (thread_begun th th.began (phases.Ask g (d - 1)))
  ask_stays query (phases.Tail l) = stays_same c
  ask_stays query (phases.Exchange l) = stays_same c
  ask_stays query (phases.Flag p d) = stays_same c
  ask_stays query (phases.Line p d j) = stays_same c
  ask_stays query (phases.Back p d j) = stays_same c
  ask_stays query (phases.Fence p d) = stays_same c
  ask_stays query (phases.Set p d) = stays_same c

  act_stays : (call : Option (Call State Op Query Reply)) → Stays c (act b c t th call th.phase)
  act_stays None = stays_same c
  act_stays (Some (Update op)) = update_stays op th.phase
  act_stays (Some (Ask query)) = ask_stays query th.phase

pub step_stays : {State Op Query Reply : Type 0} (b : Behaviour State Op Query Reply) (c : CoreState State Op Query Reply) (t : ℕ) → Stays c (step_of b c t)
step_stays {State} {Op} {Query} {Reply} b c t = by_thread (slice_get c.threads t) refl
  where
    by_thread : (o : Option (CoreThread State Op Query Reply)) → slice_get c.threads t ≡ o → Stays c (step_by b c t o)
    by_thread None e = stays_same c
    by_thread (Some th) e = act_stays b c t th e (next_call th)

pub steps_stay : {State Op Query Reply : Type 0} (b : Behaviour State Op Query Reply) (c : CoreState State Op Query Reply) (ts : List ℕ) → Stays c (steps_of b c ts)
steps_stay b c [] = stays_same c
steps_stay b c (t ∷ ts) = stays_after c (step_of b c t) (steps_of b (step_of b c t) ts) (step_stays b c t) (steps_stay b (step_of b c t) ts)
