use Rattle.std.proofs.Common.{◌≡◌, ◌≢◌, ℕ, suc, ◌+◌, ◌-◌, ◌≤◌, ◌==◌, Bool, true, false, true≢false, List, [], ◌∷◌, ◌++◌, length, take, Option, Some, None, refl, sym, ap, ◌∙◌, subst, arith, eqb-true}
use Rattle.std.proofs.lemmas.Bool.{leb-true}
use Rattle.std.specs.Prelude.{nat_le}
use Rattle.std.specs.List.{slice_get}
use Rattle.onll_model.specs.declared.node.Node.{Node}
use Rattle.onll_model.specs.declared.call.Call.{Call}
use Rattle.onll_model.specs.declared.call.Call.TheVariants.{Update, Ask}
use Rattle.onll_model.specs.Object.{Behaviour}
use Rattle.onll_model.specs.Trace.{reply_after, answer_after}
use Rattle.onll_model.specs.Frames.{is_available}
use Rattle.onll_model.specs.Events.{next_node}
use Rattle.onll_pmem.specs.Device.{Write, WriteBack, after_step}
use Rattle.onll_core.specs.declared.phase.Phase.{Phase}
use Rattle.onll_core.specs.declared.phase.Phase.TheVariants as phases
use Rattle.onll_core.specs.declared.returned.Returned.{Returned}
use Rattle.onll_core.specs.declared.returned.Current.{Current}
use Rattle.onll_core.specs.declared.returned.Current.TheVariants as currents
use Rattle.onll_core.specs.Core.{CoreThread, CoreState}
use Rattle.onll_core.specs.CoreFrame.{seen_in, thread_at}
use Rattle.onll_core.specs.Step.{turned, begun, on_device, logged, returning, put, linked, flagged, line_of_entry, after_exchange, after_flag, after_back, answered, act, next_call, step_by, step_of}
use Rattle.onll_core.specs.Consistent.{EachCoreThread, IsConsistent}
use Rattle.onll_core.specs.Outcomes.{current_in, current_of}
use Rattle.onll_core.proofs.Phases.{if_case, each_set, frame_at, seen_low, seen_available, seen_below, ask_place}
use Rattle.onll_core.proofs.Lawful.{IsLawful, lawful_begun, lawful_linked, lawful_other, update_returned, read_at_once, read_later}

-- Each step keeps the calls of every thread lawful.

pub record AreLawful {State Op Query Reply : Type 0} (b : Behaviour State Op Query Reply) (c : CoreState State Op Query Reply) : Type 0 where
  pub each : EachCoreThread c (λ t th. IsLawful b c.initial c.base c.trace t th.script th.returned (current_of th))

module _ {State Op Query Reply : Type 0} (b : Behaviour State Op Query Reply) (count : ℕ) (c : CoreState State Op Query Reply) (k : IsConsistent count c) (all : AreLawful b c) (t : ℕ) (th : CoreThread State Op Query Reply) (at : slice_get c.threads t ≡ Some th) where
  law : (now : Current) → current_of th ≡ now → IsLawful b c.initial c.base c.trace t th.script th.returned now
  law now e = subst (IsLawful b c.initial c.base c.trace t th.script th.returned) e (all.each t th at)

  abbrev seen : ℕ
  seen = seen_in c.base th.returned

  base_low : c.base ≤ seen
  base_low = k.based.all_seen t (thread_at c.base c.trace th th.phase) (frame_at count c k t th at th.phase refl)

  lawful_put : (w : CoreThread State Op Query Reply) → IsLawful b c.initial c.base c.trace t w.script w.returned (current_of w) → AreLawful b (put c t w)
  lawful_put w mine = record { each = each_set (λ u z. IsLawful b c.initial c.base c.trace u z.script z.returned (current_of z)) c.threads t w mine (λ u z _ e. all.each u z e) }

  lawful_flagged : (p : ℕ) (w : CoreThread State Op Query Reply) → IsLawful b c.initial c.base c.trace t w.script w.returned (current_of w) → AreLawful b (flagged c t p w)
  lawful_flagged p w mine = record { each = each_set (λ u z. IsLawful b c.initial c.base c.trace u z.script z.returned (current_of z)) c.threads t w mine (λ u z _ e. all.each u z e) }

  -- the step goes on within the running call
  goes_on : (now : Current) → current_of th ≡ now → (w : CoreThread State Op Query Reply) → w.script ≡ th.script → w.returned ≡ th.returned → current_of w ≡ now → AreLawful b (put c t w)
  goes_on now e w script returned current = lawful_put w
      (subst (λ (x : List (Call State Op Query Reply) × List (Returned State Op Query Reply) × Current). IsLawful b c.initial c.base c.trace t x.0 x.1 x.2)
      (λ i. (sym script i, sym returned i, sym current i)) (law now e))

  module _ (op : Op) (is : next_call th ≡ Some (Update op)) where
    -- the exchange is won
    links : (l : ℕ) → th.phase ≡ phases.Exchange l → length c.trace ≡ l → AreLawful b (linked c t (next_node c.trace t (b.row_of op)) (turned th (after_exchange c.base l)))
    links l e size =
        let x : Node = next_node c.trace t (b.row_of op) in
        let mine : IsLawful b c.initial c.base (c.trace ++ x ∷ []) t th.script th.returned (currents.Ordered (suc (length c.trace))) =
        lawful_linked b c.initial c.base c.trace t th.script th.returned op is k.based.long (seen_low count c k t th at) (law currents.Running (ap current_in e)) in
        let place : currents.Ordered (suc (length c.trace)) ≡ currents.Ordered (l + 1) = (let n : suc (length c.trace) ≡ l + 1 = omega arith in ap currents.Ordered n) in
        record {
          each = each_set (λ u z. IsLawful b c.initial c.base (c.trace ++ x ∷ []) u z.script z.returned (current_of z)) c.threads t (turned th (after_exchange c.base l))
              (subst (IsLawful b c.initial c.base (c.trace ++ x ∷ []) t th.script th.returned) (place ∙ sym (if_case (λ (ph : Phase). current_in ph ≡ currents.Ordered (l + 1)) (nat_le l c.base) (phases.Line (l + 1) l 0) (phases.Flag (l + 1) l) (λ _. refl) (λ _. refl))) mine)
              (λ u z other e. lawful_other b c.initial c.base c.trace u z.script z.returned (current_of z) x (λ h. other (sym h)) k.based.long (seen_low count c k u z e) (all.each u z e));
        }

    walk_current : (p d : ℕ) (flag : Bool) → current_in (after_flag c.base p d flag) ≡ currents.Ordered p
    walk_current p d true = refl
    walk_current p d false = if_case (λ (ph : Phase). current_in ph ≡ currents.Ordered p) (nat_le d (c.base + 1)) (phases.Line p c.base 0) (phases.Flag p (d - 1)) (λ _. refl) (λ _. refl)

    update_lawful : (ph : Phase) → th.phase ≡ ph → AreLawful b (act b c t th (Some (Update op)) ph)
    update_lawful phases.Idle e = lawful_put (begun th c.clock (phases.Exchange (length c.trace))) (lawful_begun b c.initial c.base c.trace t th.script th.returned (Update op) is (law currents.Idle (ap current_in e)))
    update_lawful (phases.Tail l) e = goes_on currents.Running (ap current_in e) (turned th (phases.Exchange (length c.trace))) refl refl refl
    update_lawful (phases.Exchange l) e = if_case (AreLawful b) (length c.trace == l) _ _
        (λ same. links l e (eqb-true (length c.trace) l same))
        (λ _. goes_on currents.Running (ap current_in e) (turned th (phases.Tail l)) refl refl refl)
    update_lawful (phases.Flag p d) e = goes_on (currents.Ordered p) (ap current_in e) (turned th (after_flag c.base p d (is_available c.flags d))) refl refl (walk_current p d (is_available c.flags d))
    update_lawful (phases.Line p d j) e = goes_on (currents.Ordered p) (ap current_in e) (on_device th (after_step th.device (Write (th.used + j) (line_of_entry th c.trace p d j))) (phases.Back p d j)) refl refl refl
    update_lawful (phases.Back p d j) e = goes_on (currents.Ordered p) (ap current_in e) (on_device th (after_step th.device (WriteBack (th.used + j))) (after_back p d j)) refl refl
        (if_case (λ (ph : Phase). current_in ph ≡ currents.Ordered p) (nat_le (suc j) (p - d)) (phases.Line p d (suc j)) (phases.Fence p d) (λ _. refl) (λ _. refl))
    update_lawful (phases.Fence p d) e = goes_on (currents.Ordered p) (ap current_in e) (logged th (p - d) (phases.Set p d)) refl refl refl
    update_lawful (phases.Set p d) e =
        let reply : Reply = reply_after b c.initial (take (p - 1) c.trace) op in
        lawful_flagged p (returning th p reply th.began c.clock)
        (update_returned b c.initial c.base c.trace t th.script th.returned op p record { place = p; reply = reply; began = th.began; ended = c.clock } is (seen_below count c k t th at p (ap current_in e)) refl refl
        (law (currents.Ordered p) (ap current_in e)))
    update_lawful (phases.Ask f d) e = all

  module _ (query : Query) (is : next_call th ≡ Some (Ask query)) where
    later : (d : ℕ) → current_of th ≡ currents.Running → seen ≤ d → d ≤ length c.trace → AreLawful b (answered b c t th th.began d query)
    later d e low high = let reply : Reply = answer_after b c.initial (take d c.trace) query in let base = base_low in
        lawful_put (returning th d reply th.began c.clock)
        (read_later b c.initial c.base c.trace t th.script th.returned query record { place = d; reply = reply; began = th.began; ended = c.clock } is (omega arith) low high refl (law currents.Running e))

    ask_lawful : (ph : Phase) → th.phase ≡ ph → AreLawful b (act b c t th (Some (Ask query)) ph)
    ask_lawful phases.Idle e = if_case (AreLawful b) (nat_le (length c.trace) c.base) _ _
        (λ le. let l = leb-true (length c.trace) c.base le in let low = seen_low count c k t th at in let reply : Reply = answer_after b c.initial (take c.base c.trace) query in
        lawful_put (returning th c.base reply c.clock c.clock)
        (read_at_once b c.initial c.base c.trace t th.script th.returned query record { place = c.base; reply = reply; began = c.clock; ended = c.clock } is (omega arith) (omega arith) k.based.long refl (law currents.Idle (ap current_in e))))
        (λ _. lawful_put (begun th c.clock (phases.Ask (length c.trace) (length c.trace))) (lawful_begun b c.initial c.base c.trace t th.script th.returned (Ask query) is (law currents.Idle (ap current_in e))))
    ask_lawful (phases.Ask f d) e = let places = ask_place count c k t th at f d e in let low = places.0 in
        if_case (AreLawful b) (is_available c.flags d) _ _
        (λ _. later d (ap current_in e) low places.1)
        (λ unset. let not : seen ≢ d = (λ x. true≢false (sym (seen_available count c k t th at) ∙ (ap (is_available c.flags) x ∙ unset))) in
        if_case (AreLawful b) (nat_le d (c.base + 1)) _ _
        (λ le. let l = leb-true d (c.base + 1) le in later c.base (ap current_in e) (omega arith) k.based.long)
        (λ _. goes_on currents.Running (ap current_in e) (turned th (phases.Ask f (d - 1))) refl refl refl))
    ask_lawful (phases.Tail l) e = all
    ask_lawful (phases.Exchange l) e = all
    ask_lawful (phases.Flag p d) e = all
    ask_lawful (phases.Line p d j) e = all
    ask_lawful (phases.Back p d j) e = all
    ask_lawful (phases.Fence p d) e = all
    ask_lawful (phases.Set p d) e = all

  act_lawful : (call : Option (Call State Op Query Reply)) → next_call th ≡ call → AreLawful b (act b c t th call th.phase)
  act_lawful None e = all
  act_lawful (Some (Update op)) e = update_lawful op e th.phase refl
  act_lawful (Some (Ask query)) e = ask_lawful query e th.phase refl

pub step_lawful : {State Op Query Reply : Type 0} (b : Behaviour State Op Query Reply) (count : ℕ) (c : CoreState State Op Query Reply) → IsConsistent count c → AreLawful b c → (t : ℕ) → AreLawful b (step_of b c t)
step_lawful {State} {Op} {Query} {Reply} b count c k all t = by_thread (slice_get c.threads t) refl
  where
    by_thread : (o : Option (CoreThread State Op Query Reply)) → slice_get c.threads t ≡ o → AreLawful b (step_by b c t o)
    by_thread None e = all
    by_thread (Some th) e = act_lawful b count c k all t th e (next_call th) refl
