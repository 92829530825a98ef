use Rattle.std.proofs.Common.{◌≡◌, ◌≢◌, ℕ, ◌+◌, ◌*◌, ◌≤◌, List, [], ◌∷◌, ◌++◌, length, drop, set, Option, Some, None, refl, sym, ap, ◌∙◌, subst, arith, append-nil, length-append}
use Rattle.std.specs.Prelude.{IfSome, is_some}
use Rattle.std.specs.List.{slice_get}
use Rattle.std.specs.Option.{option_or}
use Rattle.std.proofs.lemmas.List.{length-set}
use Rattle.onll_model.specs.declared.call.Call.{Call}
use Rattle.onll_model.specs.declared.call.Call.TheVariants.{Update, Ask}
use Rattle.onll_model.specs.Calls.{updates_in}
use Rattle.onll_model.specs.Object.{Behaviour}
use Rattle.onll_model.specs.Segment.{last_place}
use Rattle.onll_model.proofs.Lists.{set_here, set_else}
use Rattle.onll_pmem.specs.Pmem.{DeviceView}
use Rattle.onll_log.specs.Log.{LogState, free_of}
use Rattle.onll_locked.specs.declared.ends.LockedEnd.{LockedEnd}
use Rattle.onll_locked.specs.declared.ends.LockedEnd.TheVariants as ended
use Rattle.onll_locked.specs.declared.ends.Next.{Next}
use Rattle.onll_locked.specs.declared.ends.Next.TheVariants as nexts
use Rattle.onll_locked.specs.Locked.{LockedThread, LockedState, next_call, failed_in, failed_at, places_of, own_places, last_in, updates_left}
use Rattle.onll_locked.specs.DoNext.{with_end, after_end, IsThreadLog, CallIsAnswered, HasDone}
use Rattle.onll_locked.proofs.Places.{failed_more, places_more, left_update, left_ask}
use Rattle.onll_locked.proofs.Updates.{said_of, say_of}

-- The logs of the threads after a call.

or_none : (z : Option ℕ) → option_or z None ≡ z
or_none None = refl
or_none (Some x) = refl

left_less : {State Op Query Reply : Type 0} (th : LockedThread State Op Query Reply) (call : Call State Op Query Reply) (e : LockedEnd State Op Query Reply) → next_call th ≡ Some call → updates_left (with_end th e) ≤ updates_left th
left_less th (Update op) e is = let l = left_update th.script (length th.ends) op is in let m = ap (λ (n : ℕ). updates_in (drop n th.script)) (length-append th.ends (e ∷ [])) in omega arith
left_less th (Ask query) e is = let l = left_ask th.script (length th.ends) query is in let m = ap (λ (n : ℕ). updates_in (drop n th.script)) (length-append th.ends (e ∷ [])) in omega arith

module _ {State Op Query Reply Device : Type 0} (c : LockedState State Op Query Reply) (t : ℕ) (th : LockedThread State Op Query Reply) (at : slice_get c.threads t ≡ Some th) where
  -- ---- the log of the thread itself, after a call that has no node
  ready_end : (call : Call State Op Query Reply) (e : LockedEnd State Op Query Reply) → next_call th ≡ Some call → places_of call e ≡ [] → failed_in e ≡ None → (log : LogState Device) (lines : ℕ) → IsThreadLog c t log lines → IsThreadLog (after_end c t th e) t log lines
  ready_end call e is none whole log lines ready =
      let w : LockedThread State Op Query Reply = with_end th e in
      let here : slice_get (set c.threads t w) t ≡ Some w = set_here c.threads t w th at in
      let many = length-set c.threads t w in
      let places : own_places w ≡ own_places th = places_more th.script th.ends call e is ∙ (ap (λ (z : List ℕ). own_places th ++ z) none ∙ append-nil (own_places th)) in
      let failed : failed_at w.ends ≡ failed_at th.ends = failed_more th.ends e ∙ (ap (option_or (failed_at th.ends)) whole ∙ or_none (failed_at th.ends)) in
      let left = said_of (λ (z : LockedThread State Op Query Reply). (length c.threads + 1) * updates_left z ≤ free_of lines log.entries) (slice_get c.threads t) th at ready.room in
      let less = left_less th call e is in
      let product : (length c.threads + 1) * updates_left w ≤ (length c.threads + 1) * updates_left th = grind arith in
      record {
        thread = ready.thread;
        threads = ready.threads ∙ sym many;
        broken = say_of (λ (z : LockedThread State Op Query Reply). log.broken ≡ is_some (failed_at z.ends)) (slice_get (set c.threads t w) t) w here
            (said_of (λ (z : LockedThread State Op Query Reply). log.broken ≡ is_some (failed_at z.ends)) (slice_get c.threads t) th at ready.broken ∙ ap is_some (sym failed));
        last = say_of (λ (z : LockedThread State Op Query Reply). last_place 0 log.entries ≡ last_in 0 (own_places z)) (slice_get (set c.threads t w) t) w here
            (said_of (λ (z : LockedThread State Op Query Reply). last_place 0 log.entries ≡ last_in 0 (own_places z)) (slice_get c.threads t) th at ready.last ∙ ap (last_in 0) (sym places));
        room = say_of (λ (z : LockedThread State Op Query Reply). (length (set c.threads t w) + 1) * updates_left z ≤ free_of lines log.entries) (slice_get (set c.threads t w) t) w here
            (subst (λ (n : ℕ). (n + 1) * updates_left w ≤ free_of lines log.entries) (sym many) (omega arith));
      }

  pub end_ready : (call : Call State Op Query Reply) (e : LockedEnd State Op Query Reply) (new : LockedState State Op Query Reply) → next_call th ≡ Some call → places_of call e ≡ [] → failed_in e ≡ None
      → IfSome (slice_get c.threads t) (λ z. new ≡ after_end c t z e) → (log : LogState Device) (lines : ℕ) → IsThreadLog c t log lines → IsThreadLog new t log lines
  end_ready call e new is none whole made log lines ready = subst (λ (s : LockedState State Op Query Reply). IsThreadLog s t log lines) (sym (said_of (λ (z : LockedThread State Op Query Reply). new ≡ after_end c t z e) (slice_get c.threads t) th at made))
      (ready_end call e is none whole log lines ready)

  -- ---- the logs of the others
  others_stay : (new : LockedState State Op Query Reply) (w : LockedThread State Op Query Reply) → new.threads ≡ set c.threads t w → (u : ℕ) (other : LogState Device) (lines : ℕ) → u ≢ t → IsThreadLog c u other lines → IsThreadLog new u other lines
  others_stay new w threads u other lines not ready =
      let many : length new.threads ≡ length c.threads = ap length threads ∙ length-set c.threads t w in
      let same : slice_get new.threads u ≡ slice_get c.threads u = ap (λ (l : List (LockedThread State Op Query Reply)). slice_get l u) threads ∙ set_else c.threads t u w not in
      record {
        thread = ready.thread;
        threads = ready.threads ∙ sym many;
        broken = subst (λ (o : Option (LockedThread State Op Query Reply)). IfSome o (λ z. other.broken ≡ is_some (failed_at z.ends))) (sym same) ready.broken;
        last = subst (λ (o : Option (LockedThread State Op Query Reply)). IfSome o (λ z. last_place 0 other.entries ≡ last_in 0 (own_places z))) (sym same) ready.last;
        room = subst (λ (x : Option (LockedThread State Op Query Reply) × ℕ). IfSome x.0 (λ z. (x.1 + 1) * updates_left z ≤ free_of lines other.entries)) (λ i. (sym same i, sym many i)) ready.room;
      }

  pub end_others : (e : LockedEnd State Op Query Reply) (new : LockedState State Op Query Reply) → IfSome (slice_get c.threads t) (λ z. new ≡ after_end c t z e) → (u : ℕ) (other : LogState Device) (lines : ℕ) → u ≢ t → IsThreadLog c u other lines → IsThreadLog new u other lines
  end_others e new made = others_stay new (with_end th e) (ap (λ (s : LockedState State Op Query Reply). s.threads) (said_of (λ (z : LockedThread State Op Query Reply). new ≡ after_end c t z e) (slice_get c.threads t) th at made))

  module _ (b : Behaviour State Op Query Reply) (new : LockedState State Op Query Reply) (log log' : LogState Device) (was is : DeviceView) where
    abbrev Stay : Type 0
    Stay = (u : ℕ) (other : LogState Device) (lines : ℕ) → u ≢ t → IsThreadLog c u other lines → IsThreadLog new u other lines

    answered_others : (call : Option (Call State Op Query Reply)) → CallIsAnswered b c t th new log log' was is call → Stay
    answered_others None d = absurd d
    answered_others (Some (Update op)) d = others_stay new _ (ap (λ (s : LockedState State Op Query Reply). s.threads) d.state)
    answered_others (Some (Ask query)) d = others_stay new _ (ap (λ (s : LockedState State Op Query Reply). s.threads) d.state)

    done_others : (next : Next) → HasDone b c t th new log log' was is next → Stay
    done_others nexts.Answered d = answered_others (next_call th) d
    done_others nexts.Done d = λ u other lines not ready. subst (λ (s : LockedState State Op Query Reply). IsThreadLog s u other lines) (sym d.state) ready
    done_others (nexts.FenceFailed place) d = others_stay new _ (ap (λ (s : LockedState State Op Query Reply). s.threads) d.state)
    done_others (nexts.Broken place) d = others_stay new _ (ap (λ (s : LockedState State Op Query Reply). s.threads) d.state)

    pub said_others : (next : Next) → IfSome (slice_get c.threads t) (λ z. HasDone b c t z new log log' was is next) → Stay
    said_others next d = done_others next (said_of (λ (z : LockedThread State Op Query Reply). HasDone b c t z new log log' was is next) (slice_get c.threads t) th at d)

    pub refused : (op : Op) (place : ℕ) → next_call th ≡ Some (Update op) → failed_at th.ends ≡ Some place → log' ≡ log → IfSome (slice_get c.threads t) (λ z. new ≡ after_end c t z (ended.Broken place)) → IfSome (slice_get c.threads t) (λ z. HasDone b c t z new log log' was is (nexts.Broken place))
    refused op place call failed same made = say_of (λ (z : LockedThread State Op Query Reply). HasDone b c t z new log log' was is (nexts.Broken place)) (slice_get c.threads t) th at
        record { op = op; call = call; failed = failed; state = said_of (λ (z : LockedThread State Op Query Reply). new ≡ after_end c t z (ended.Broken place)) (slice_get c.threads t) th at made; log_stays = same }
