use Rattle.std.proofs.Common.{ℕ, suc, ◌≡◌, ◌≢◌, ◌+◌, ◌-◌, ⊎_elim, Bool, true, false, List, [], ◌∷◌, length, take, set, Option, Some, None, refl, ap, ◌∙◌, subst, arith, ◌==◌}
use Rattle.std.specs.Prelude.{if◌then◌else◌, nat_le}
use Rattle.std.specs.List.{slice_get}
use Rattle.onll_model.specs.declared.call.Call.{Call}
use Rattle.onll_model.specs.declared.call.Call.TheVariants.{Update, Ask}
use Rattle.onll_model.specs.Object.{Behaviour}
use Rattle.onll_model.specs.Trace.{reply_after, answer_after}
use Rattle.onll_model.specs.Frames.{is_available}
use Rattle.onll_model.specs.Events.{next_node}
use Rattle.onll_model.proofs.Lists.{at_set}
use Rattle.onll_model.specs.Calls.{updates_in}
use Rattle.onll_pmem.specs.Device.{Write, WriteBack, after_step}
use Rattle.onll_core.specs.declared.phase.Phase.{Phase}
use Rattle.onll_core.specs.declared.phase.Phase.TheVariants as phases
use Rattle.onll_core.specs.declared.returned.Returned.{Returned}
use Rattle.onll_core.specs.Core.{CoreThread, CoreState}
use Rattle.onll_core.specs.Step.{turned, begun, on_device, logged, returning, put, linked, line_of_entry, after_exchange, after_flag, answered, act, next_call, step_by, step_of, steps_of}
use Rattle.onll_core.specs.Fences.{fenced_in, updates_returned, CountsFences}
use Rattle.onll_core.proofs.Calls.{length_snoc, update_taken, ask_taken}

-- Each step keeps the count of fences.

module _ {State Op Query Reply : Type 0} (b : Behaviour State Op Query Reply) (c : CoreState State Op Query Reply) (k : CountsFences c) (t : ℕ) (th : CoreThread State Op Query Reply) (at : slice_get c.threads t ≡ Some th) where
  -- the count of a thread whose next step is of this kind
  abbrev Counts : CoreThread State Op Query Reply → Phase → Type 0
  Counts w ph = w.device.fences ≡ w.before + (updates_returned w + fenced_in ph)

  counts_at : (ph : Phase) → th.phase ≡ ph → Counts th ph
  counts_at ph e = subst (λ (z : Phase). Counts th z) e (k t th at)

  -- one thread has changed
  each : (w : CoreThread State Op Query Reply) → Counts w w.phase → (u : ℕ) (z : CoreThread State Op Query Reply) → slice_get (set c.threads t w) u ≡ Some z → Counts z z.phase
  each w mine u z e = ⊎_elim (λ (x : (u ≡ t) × (w ≡ z)). subst (λ (y : CoreThread State Op Query Reply). Counts y y.phase) x.1 mine)
      (λ (x : (u ≢ t) × (slice_get c.threads u ≡ Some z)). k u z x.1) (at_set c.threads t u w z e)

  -- a call returns
  returns_update : (op : Op) → next_call th ≡ Some (Update op) → (ph : Phase) → th.phase ≡ ph → fenced_in ph ≡ 1 → (place : ℕ) (reply : Reply) (began : ℕ) → Counts (returning th place reply began c.clock) phases.Idle
  returns_update op call ph is one place reply began =
      let r : Returned State Op Query Reply = record { place = place; reply = reply; began = began; ended = c.clock } in
      let n = counts_at ph is in
      let u = ap (λ (n : ℕ). updates_in (take n th.script)) (length_snoc th.returned r) ∙ update_taken th.script (length th.returned) op call in
      omega arith

  returns_ask : (query : Query) → next_call th ≡ Some (Ask query) → (ph : Phase) → th.phase ≡ ph → fenced_in ph ≡ 0 → (place : ℕ) (reply : Reply) (began : ℕ) → Counts (returning th place reply began c.clock) phases.Idle
  returns_ask query call ph is none place reply began =
      let r : Returned State Op Query Reply = record { place = place; reply = reply; began = began; ended = c.clock } in
      let n = counts_at ph is in
      let u = ap (λ (n : ℕ). updates_in (take n th.script)) (length_snoc th.returned r) ∙ ask_taken th.script (length th.returned) query call in
      omega arith

  update_counts : (op : Op) → next_call th ≡ Some (Update op) → (ph : Phase) → th.phase ≡ ph → CountsFences (act b c t th (Some (Update op)) ph)
  update_counts op call phases.Idle is = each (begun th c.clock (phases.Exchange (length c.trace))) (counts_at phases.Idle is)
  update_counts op call (phases.Tail l) is = each (turned th (phases.Exchange (length c.trace))) (counts_at (phases.Tail l) is)
  update_counts op call (phases.Exchange l) is = by_tail (length c.trace == l)
    where
      by_base : (q : Bool) → CountsFences (linked c t (next_node c.trace t (b.row_of op)) (turned th (if q then phases.Line (l + 1) l 0 else phases.Flag (l + 1) l)))
      by_base true = each (turned th (phases.Line (l + 1) l 0)) (counts_at (phases.Exchange l) is)
      by_base false = each (turned th (phases.Flag (l + 1) l)) (counts_at (phases.Exchange l) is)

      by_tail : (q : Bool) → CountsFences (if q then linked c t (next_node c.trace t (b.row_of op)) (turned th (after_exchange c.base l)) else put c t (turned th (phases.Tail l)))
      by_tail true = by_base (nat_le l c.base)
      by_tail false = each (turned th (phases.Tail l)) (counts_at (phases.Exchange l) is)
  update_counts op call (phases.Flag p d) is = by_flag (is_available c.flags d)
    where
      by_base : (q : Bool) → CountsFences (put c t (turned th (if q then phases.Line p c.base 0 else phases.Flag p (d - 1))))
      by_base true = each (turned th (phases.Line p c.base 0)) (counts_at (phases.Flag p d) is)
      by_base false = each (turned th (phases.Flag p (d - 1))) (counts_at (phases.Flag p d) is)

      by_flag : (q : Bool) → CountsFences (put c t (turned th (after_flag c.base p d q)))
      by_flag true = each (turned th (phases.Line p d 0)) (counts_at (phases.Flag p d) is)
      by_flag false = by_base (nat_le d (c.base + 1))
  update_counts op call (phases.Line p d j) is = each (on_device th (after_step th.device (Write (th.used + j) (line_of_entry th c.trace p d j))) (phases.Back p d j)) (counts_at (phases.Line p d j) is)
  update_counts op call (phases.Back p d j) is = by_last (nat_le (suc j) (p - d))
    where
      by_last : (q : Bool) → CountsFences (put c t (on_device th (after_step th.device (WriteBack (th.used + j))) (if q then phases.Line p d (suc j) else phases.Fence p d)))
      by_last true = each (on_device th (after_step th.device (WriteBack (th.used + j))) (phases.Line p d (suc j))) (counts_at (phases.Back p d j) is)
      by_last false = each (on_device th (after_step th.device (WriteBack (th.used + j))) (phases.Fence p d)) (counts_at (phases.Back p d j) is)
  update_counts op call (phases.Fence p d) is = each (logged th (p - d) (phases.Set p d)) (let n = counts_at (phases.Fence p d) is in omega arith)
  update_counts op call (phases.Set p d) is = let reply : Reply = reply_after b c.initial (take (p - 1) c.trace) op in each (returning th p reply th.began c.clock) (returns_update op call (phases.Set p d) is refl p reply th.began)
  update_counts op call (phases.Ask g d) is = k

  ask_counts : (query : Query) → next_call th ≡ Some (Ask query) → (ph : Phase) → th.phase ≡ ph → CountsFences (act b c t th (Some (Ask query)) ph)
  ask_counts query call phases.Idle is = by_base (nat_le (length c.trace) c.base)
    where
      by_base : (q : Bool) → CountsFences (if q then answered b c t th c.clock c.base query else put c t (begun th c.clock (phases.Ask (length c.trace) (length c.trace))))
      by_base true = let reply : Reply = answer_after b c.initial (take c.base c.trace) query in each (returning th c.base reply c.clock c.clock) (returns_ask query call phases.Idle is refl c.base reply c.clock)
      by_base false = each (begun th c.clock (phases.Ask (length c.trace) (length c.trace))) (counts_at phases.Idle is)
  ask_counts query call (phases.Ask g d) is = by_flag (is_available c.flags d) (nat_le d (c.base + 1))
    where
      answers : (place : ℕ) → CountsFences (answered b c t th th.began place query)
      answers place = let reply : Reply = answer_after b c.initial (take place c.trace) query in each (returning th place reply th.began c.clock) (returns_ask query call (phases.Ask g d) is refl place reply th.began)

      by_flag : (q r : Bool) → CountsFences (if q then answered b c t th th.began d query else (if r then answered b c t th th.began c.base query else put c t (turned th (phases.Ask g (d - 1)))))
      by_flag true r = answers d
      by_flag false true = answers c.base
      by_flag false false = each (turned th (phases.Ask g (d - 1))) (counts_at (phases.Ask g d) is)
  ask_counts query call (phases.Tail l) is = k
  ask_counts query call (phases.Exchange l) is = k
  ask_counts query call (phases.Flag p d) is = k
  ask_counts query call (phases.Line p d j) is = k
  ask_counts query call (phases.Back p d j) is = k
  ask_counts query call (phases.Fence p d) is = k
  ask_counts query call (phases.Set p d) is = k

  act_counts : (call : Option (Call State Op Query Reply)) → next_call th ≡ call → CountsFences (act b c t th call th.phase)
  act_counts None e = k
  act_counts (Some (Update op)) e = update_counts op e th.phase refl
  act_counts (Some (Ask query)) e = ask_counts query e th.phase refl

pub step_counts : {State Op Query Reply : Type 0} (b : Behaviour State Op Query Reply) (c : CoreState State Op Query Reply) (t : ℕ) → CountsFences c → CountsFences (step_of b c t)
step_counts {State} {Op} {Query} {Reply} b c t k = by_thread (slice_get c.threads t) refl
  where
    by_thread : (o : Option (CoreThread State Op Query Reply)) → slice_get c.threads t ≡ o → CountsFences (step_by b c t o)
    by_thread None e = k
    by_thread (Some th) e = act_counts b c k t th e (next_call th) refl

pub steps_counts : {State Op Query Reply : Type 0} (b : Behaviour State Op Query Reply) (c : CoreState State Op Query Reply) (ts : List ℕ) → CountsFences c → CountsFences (steps_of b c ts)
steps_counts b c [] k = k
steps_counts b c (t ∷ ts) k = steps_counts b (step_of b c t) ts (step_counts b c t k)
