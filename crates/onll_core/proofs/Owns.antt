use Rattle.std.proofs.Common.{ℕ, zero, suc, ◌≡◌, ◌≢◌, ◌+◌, ◌-◌, ◌<◌, ◌≤◌, ◌⊎◌, inl, inr, ⊎_elim, Bool, true, false, List, [], ◌∷◌, ◌++◌, length, take, drop, set, Option, Some, None, sym, refl, ap, ◌∙◌, subst, arith}
use Rattle.std.specs.Prelude.{nat_le, if◌then◌else◌}
use Rattle.std.specs.List.{slice_get}
use mathlib.Core.Logic.{dite}
use native.Mathlib.Decide.{ℕ_discrete}
use Rattle.onll_model.specs.declared.node.Node.{Node}
use Rattle.onll_model.specs.declared.call.Call.{Call}
use Rattle.onll_model.specs.declared.call.Call.TheVariants.{Update, Ask}
use Rattle.onll_model.specs.Object.{Behaviour}
use Rattle.onll_model.specs.Trace.{reply_after, answer_after}
use Rattle.onll_model.specs.Frames.{is_available}
use Rattle.onll_model.specs.Events.{next_node}
use Rattle.onll_model.proofs.Lists.{same_some, some_not_none, inside, at_set, at_before, at_end}
use Rattle.onll_pmem.specs.Device.{Write, WriteBack, after_step}
use Rattle.onll_core.specs.declared.phase.Phase.{Phase}
use Rattle.onll_core.specs.declared.phase.Phase.TheVariants as phases
use Rattle.onll_core.specs.Core.{CoreThread, CoreState}
use Rattle.onll_core.specs.Step.{turned, begun, on_device, logged, returning, put, linked, answered, line_of_entry, after_exchange, after_flag, after_back, act, next_call, step_by, step_of}
use Rattle.onll_core.specs.Kept.{own_place, HoldsOp, HoldOwn}

-- An update that has a place holds its operation there, after every step.

-- in a longer trace too
holds_more : {State Op Query Reply : Type 0} (b : Behaviour State Op Query Reply) (trace more : List Node) (p : ℕ) (op : Op) → HoldsOp b trace p op → HoldsOp b (trace ++ more) p op
holds_more b trace more zero op h = record { node = h.node; here = h.here; row = h.row }
holds_more b trace more (suc q) op h = record { node = h.node; here = at_before trace more q (inside trace q h.node h.here) ∙ h.here; row = h.row }

-- each kind of step that a walk or a log goes on to has the same place
flag_place : (base p d : ℕ) (q : Bool) → own_place (after_flag base p d q) ≡ Some p
flag_place base p d true = refl
flag_place base p d false = by_base (nat_le d (base + 1))
  where
    by_base : (q : Bool) → own_place (if q then phases.Line p base 0 else phases.Flag p (d - 1)) ≡ Some p
    by_base true = refl
    by_base false = refl

back_place : (p d k : ℕ) → own_place (after_back p d k) ≡ Some p
back_place p d k = by_last (nat_le (suc k) (p - d))
  where
    by_last : (q : Bool) → own_place (if q then phases.Line p d (suc k) else phases.Fence p d) ≡ Some p
    by_last true = refl
    by_last false = refl

exchange_place : (base l : ℕ) → own_place (after_exchange base l) ≡ Some (l + 1)
exchange_place base l = by_base (nat_le l base)
  where
    by_base : (q : Bool) → own_place (if q then phases.Line (l + 1) l 0 else phases.Flag (l + 1) l) ≡ Some (l + 1)
    by_base true = refl
    by_base false = refl

module _ {State Op Query Reply : Type 0} (b : Behaviour State Op Query Reply) (c : CoreState State Op Query Reply) (k : HoldOwn b c) (t : ℕ) (th : CoreThread State Op Query Reply) (at : slice_get c.threads t ≡ Some th) where
  abbrev OwnIn : List Node → CoreThread State Op Query Reply → Type 0
  OwnIn trace w = (op : Op) (p : ℕ) → next_call w ≡ Some (Update op) → own_place w.phase ≡ Some p → HoldsOp b trace p op

  abbrev Each : List Node → List (CoreThread State Op Query Reply) → Type 0
  Each trace threads = (u : ℕ) (v : CoreThread State Op Query Reply) → slice_get threads u ≡ Some v → OwnIn trace v

  set_own : (trace : List Node) (w : CoreThread State Op Query Reply) → OwnIn trace w → Each trace c.threads → Each trace (set c.threads t w)
  set_own trace w own each u v e = ⊎_elim (λ (h : (u ≡ t) × (w ≡ v)). subst (OwnIn trace) h.1 own) (λ (h : (u ≢ t) × (slice_get c.threads u ≡ Some v)). each u v h.1) (at_set c.threads t u w v e)

  rests : (w : CoreThread State Op Query Reply) → own_place w.phase ≡ None → Each c.trace (set c.threads t w)
  rests w e = set_own c.trace w (λ op p call own. some_not_none p (sym own ∙ e)) k

  moves : (w : CoreThread State Op Query Reply) → next_call w ≡ next_call th → own_place w.phase ≡ own_place th.phase → Each c.trace (set c.threads t w)
  moves w same place = set_own c.trace w (λ op p call own. k t th at op p (sym same ∙ call) (sym place ∙ own)) k

  links : (op : Op) (l : ℕ) → next_call th ≡ Some (Update op) → length c.trace ≡ l → HoldOwn b (linked c t (next_node c.trace t (b.row_of op)) (turned th (after_exchange c.base l)))
  links op l call size =
      let x : Node = next_node c.trace t (b.row_of op) in
      let long : List Node = c.trace ++ x ∷ [] in
      let w : CoreThread State Op Query Reply = turned th (after_exchange c.base l) in
      set_own long w (λ op' p' call' own'.
      let same : op ≡ op' = (let e : Some (Update op) ≡ Some (Update op') = sym call ∙ call' in cc) in
      let place : l + 1 ≡ p' = same_some (l + 1) p' (sym (exchange_place c.base l) ∙ own') in
      let here : suc (length c.trace) ≡ p' = omega arith in
      let h : HoldsOp b long (suc (length c.trace)) op = record { node = x; here = at_end c.trace x; row = b.op_of_its_row op } in
      subst (λ (o : Op). HoldsOp b long p' o) same (subst (λ (q : ℕ). HoldsOp b long q op) here h))
      (λ u v e op' p' call' own'. holds_more b c.trace (x ∷ []) p' op' (k u v e op' p' call' own'))

  update_own : (op : Op) → next_call th ≡ Some (Update op) → (ph : Phase) → th.phase ≡ ph → HoldOwn b (act b c t th (Some (Update op)) ph)
  update_own op call phases.Idle is = rests (begun th c.clock (phases.Exchange (length c.trace))) refl
  update_own op call (phases.Tail l) is = rests (turned th (phases.Exchange (length c.trace))) refl
  update_own op call (phases.Exchange l) is = dite (ℕ_discrete (length c.trace) l)
      (λ size. subst (λ (q : Bool). HoldOwn b (if q then linked c t (next_node c.trace t (b.row_of op)) (turned th (after_exchange c.base l)) else put c t (turned th (phases.Tail l)))) (sym (Rattle.std.proofs.Common.eq-eqb (length c.trace) l size)) (links op l call size))
      (λ other. subst (λ (q : Bool). HoldOwn b (if q then linked c t (next_node c.trace t (b.row_of op)) (turned th (after_exchange c.base l)) else put c t (turned th (phases.Tail l)))) (sym (Rattle.std.proofs.Common.ne_eqb (length c.trace) l other)) (rests (turned th (phases.Tail l)) refl))
  update_own op call (phases.Flag p d) is = moves (turned th (after_flag c.base p d (is_available c.flags d))) refl (flag_place c.base p d (is_available c.flags d) ∙ sym (ap own_place is))
  update_own op call (phases.Line p d j) is = moves (on_device th (after_step th.device (Write (th.used + j) (line_of_entry th c.trace p d j))) (phases.Back p d j)) refl (sym (ap own_place is))
  update_own op call (phases.Back p d j) is = moves (on_device th (after_step th.device (WriteBack (th.used + j))) (after_back p d j)) refl (back_place p d j ∙ sym (ap own_place is))
  update_own op call (phases.Fence p d) is = moves (logged th (p - d) (phases.Set p d)) refl (sym (ap own_place is))
  update_own op call (phases.Set p d) is = rests (returning th p (reply_after b c.initial (take (p - 1) c.trace) op) th.began c.clock) refl
  update_own op call (phases.Ask g d) is = k

  ask_own : (query : Query) (ph : Phase) → HoldOwn b (act b c t th (Some (Ask query)) ph)
  ask_own query phases.Idle = by_base (nat_le (length c.trace) c.base)
    where
      by_base : (q : Bool) → HoldOwn b (if q then answered b c t th c.clock c.base query else put c t (begun th c.clock (phases.Ask (length c.trace) (length c.trace))))
      by_base true = rests (returning th c.base (answer_after b c.initial (take c.base c.trace) query) c.clock c.clock) refl
      by_base false = rests (begun th c.clock (phases.Ask (length c.trace) (length c.trace))) refl
  ask_own query (phases.Ask g d) = by_flag (is_available c.flags d) (nat_le d (c.base + 1))
    where
      by_flag : (q r : Bool) → HoldOwn b (if q then answered b c t th th.began d query else (if r then answered b c t th th.began c.base query else put c t (turned th (phases.Ask g (d - 1)))))
      by_flag true r = rests (returning th d (answer_after b c.initial (take d c.trace) query) th.began c.clock) refl
      by_flag false true = rests (returning th c.base (answer_after b c.initial (take c.base c.trace) query) th.began c.clock) refl
      by_flag false false = rests (turned th (phases.Ask g (d - 1))) refl
  ask_own query (phases.Tail l) = k
  ask_own query (phases.Exchange l) = k
  ask_own query (phases.Flag p d) = k
  ask_own query (phases.Line p d j) = k
  ask_own query (phases.Back p d j) = k
  ask_own query (phases.Fence p d) = k
  ask_own query (phases.Set p d) = k

  act_own : (call : Option (Call State Op Query Reply)) → next_call th ≡ call → HoldOwn b (act b c t th call th.phase)
  act_own None e = k
  act_own (Some (Update op)) e = update_own op e th.phase refl
  act_own (Some (Ask query)) e = ask_own query th.phase

pub step_own : {State Op Query Reply : Type 0} (b : Behaviour State Op Query Reply) (c : CoreState State Op Query Reply) (t : ℕ) → HoldOwn b c → HoldOwn b (step_of b c t)
step_own {State} {Op} {Query} {Reply} b c t k = by_thread (slice_get c.threads t) refl
  where
    by_thread : (o : Option (CoreThread State Op Query Reply)) → slice_get c.threads t ≡ o → HoldOwn b (step_by b c t o)
    by_thread None e = k
    by_thread (Some th) e = act_own b c k t th e (next_call th) refl
