use Rattle.std.proofs.Common.{◌≡◌, ℕ, zero, suc, ◌≤◌, take, List, [], ◌∷◌, ◌++◌, Option, Some, None, refl, sym, ap, ◌∙◌, subst, arith, length}
use Rattle.std.specs.List.{slice_get}
use Rattle.onll_model.specs.declared.node.Node.{Node}
use Rattle.onll_model.specs.declared.call.Call.{Call}
use Rattle.onll_model.specs.declared.call.Call.TheVariants.{Update, Ask}
use Rattle.onll_model.specs.Segment.{Segment}
use Rattle.onll_model.specs.Object.{Behaviour}
use Rattle.onll_model.proofs.Lists.{some_not_none, same_some}
use Rattle.onll_log.specs.declared.head.LogHead.{LogHead}
use Rattle.onll_core.specs.declared.phase.Phase.TheVariants as phases
use Rattle.onll_core.specs.declared.returned.Current.{Current}
use Rattle.onll_core.specs.declared.returned.Current.TheVariants as currents
use Rattle.onll_core.specs.Core.{CoreThread, CoreState}
use Rattle.onll_core.specs.Step.{step_of, steps_of, next_call}
use Rattle.onll_core.specs.First.{first_thread, first_threads, first_core}
use Rattle.onll_core.specs.Created.{created_core}
use Rattle.onll_log.specs.Head.{heads_from}
use Rattle.onll_core.specs.Resumed.{resumed_core_thread, resumed_core_threads, resumed_core}
use Rattle.onll_core.specs.Consistent.{IsConsistent}
use Rattle.onll_core.specs.Outcomes.{current_of, IsFreshCore}
use Rattle.onll_core.specs.Reached.{IsReached}
use Rattle.onll_core.specs.OutcomeLaws.{FirstReachedLaw, CreatedReachedLaw, ResumedReachedLaw, FreshReachedLaw, StepReachedLaw, StepsReachedLaw, ReachedConsistentLaw, ReportLaw, OrderLaw, ReturnLaw}
use Rattle.onll_core.proofs.FirstCore.{first_consistent, resumed_consistent}
use Rattle.onll_core.proofs.Created.{created_consistent}
use Rattle.onll_core.proofs.Kept.{step_consistent, steps_consistent}
use Rattle.onll_core.proofs.Lawful.{Suits}
use Rattle.onll_core.proofs.LawfulSteps.{AreLawful, step_lawful}
use Rattle.onll_core.proofs.LegalReport.{lawful_report, fresh_lawful, all_counted}
use Rattle.onll_core.proofs.Timed.{IsTimed}
use Rattle.onll_core.proofs.TimedSteps.{step_timed, fresh_timed}
use Rattle.onll_core.proofs.InTime.{timed_order}
use Rattle.onll_core.proofs.Bounds.{returns_in_time}
use Rattle.onll_model.specs.Calls.{updates_in}
use Rattle.onll_core.specs.declared.returned.Returned.{Returned}
use Rattle.onll_core.specs.Fences.{fenced_in, updates_returned, CountsFences}
use Rattle.onll_core.proofs.Fences.{steps_counts}

-- What holds of every core that steps reach.

-- in the first state no call has begun
module _ {State Op Query Reply : Type 0} where
  first_threads_fresh : (heads : List LogHead) (scripts : List (List (Call State Op Query Reply))) (t : ℕ) (th : CoreThread State Op Query Reply) → slice_get (first_threads heads scripts) t ≡ Some th → (th.returned ≡ []) × (th.phase ≡ phases.Idle) × (th.began ≤ 0) × (th.device.fences ≡ th.before)
  first_threads_fresh [] scripts t th e = some_not_none th (sym e)
  first_threads_fresh (head ∷ heads) [] t th e = some_not_none th (sym e)
  first_threads_fresh (head ∷ heads) (script ∷ scripts) zero th e = let same = sym (same_some (first_thread head script) th e) in
      (ap (λ z. z.returned) same, ap (λ z. z.phase) same, (let n = ap (λ z. z.began) same in omega arith), ap (λ z. z.device.fences) same ∙ sym (ap (λ z. z.before) same))
  first_threads_fresh (head ∷ heads) (script ∷ scripts) (suc t) th e = first_threads_fresh heads scripts t th e

  pub first_fresh : (initial : State) (heads : List LogHead) (scripts : List (List (Call State Op Query Reply))) → IsFreshCore (first_core initial heads scripts)
  first_fresh initial heads scripts = record {
    trace = refl;
    returned = λ t th e. (first_threads_fresh heads scripts t th e).0;
    idle = λ t th e. (first_threads_fresh heads scripts t th e).1;
    began = λ t th e. (first_threads_fresh heads scripts t th e).2;
    fences = λ t th e. (first_threads_fresh heads scripts t th e).3;
  }

  resumed_threads_fresh : (heads : List LogHead) (logs : List (List Segment)) (scripts : List (List (Call State Op Query Reply))) (t : ℕ) (th : CoreThread State Op Query Reply) → slice_get (resumed_core_threads heads logs scripts) t ≡ Some th → (th.returned ≡ []) × (th.phase ≡ phases.Idle) × (th.began ≤ 0) × (th.device.fences ≡ th.before)
  resumed_threads_fresh [] logs scripts t th e = some_not_none th (sym e)
  resumed_threads_fresh (head ∷ heads) [] scripts t th e = some_not_none th (sym e)
  resumed_threads_fresh (head ∷ heads) (log ∷ logs) [] t th e = some_not_none th (sym e)
  resumed_threads_fresh (head ∷ heads) (log ∷ logs) (script ∷ scripts) zero th e = let same = sym (same_some (resumed_core_thread head log script) th e) in
      (ap (λ z. z.returned) same, ap (λ z. z.phase) same, (let n = ap (λ z. z.began) same in omega arith), ap (λ z. z.device.fences) same ∙ sym (ap (λ z. z.before) same))
  resumed_threads_fresh (head ∷ heads) (log ∷ logs) (script ∷ scripts) (suc t) th e = resumed_threads_fresh heads logs scripts t th e

  pub resumed_fresh : (initial : State) (base : List Node) (heads : List LogHead) (logs : List (List Segment)) (scripts : List (List (Call State Op Query Reply))) → IsFreshCore (resumed_core initial base heads logs scripts)
  resumed_fresh initial base heads logs scripts = record {
    trace = refl;
    returned = λ t th e. (resumed_threads_fresh heads logs scripts t th e).0;
    idle = λ t th e. (resumed_threads_fresh heads logs scripts t th e).1;
    began = λ t th e. (resumed_threads_fresh heads logs scripts t th e).2;
    fences = λ t th e. (resumed_threads_fresh heads logs scripts t th e).3;
  }

  fresh_counts : (c : CoreState State Op Query Reply) → IsFreshCore c → CountsFences c
  fresh_counts c f t th at =
      let none : updates_returned th ≡ 0 = ap (λ (rs : List (Returned State Op Query Reply)). updates_in (take (length rs) th.script)) (f.returned t th at) in
      let rest : fenced_in th.phase ≡ 0 = ap fenced_in (f.idle t th at) in
      let e = f.fences t th at in
      omega arith

  ordered_update : (place : ℕ) (now : Current) (call : Option (Call State Op Query Reply)) → now ≡ currents.Ordered place → Suits now call → (op : Op) × (call ≡ Some (Update op))
  ordered_update place currents.Idle call e h = absurd (cc)
  ordered_update place currents.Running call e h = absurd (cc)
  ordered_update place (currents.Ordered p) None e h = absurd h
  ordered_update place (currents.Ordered p) (Some (Update op)) e h = (op, refl)
  ordered_update place (currents.Ordered p) (Some (Ask query)) e h = absurd h

module _ {State Op Query Reply : Type 0} (b : Behaviour State Op Query Reply) where
  steps_lawful : (count : ℕ) (c : CoreState State Op Query Reply) (ts : List ℕ) → IsConsistent count c → AreLawful b c → AreLawful b (steps_of b c ts)
  steps_lawful count c [] k h = h
  steps_lawful count c (t ∷ ts) k h = steps_lawful count (step_of b c t) ts (step_consistent b count c t k) (step_lawful b count c k h t)

  steps_timed : (count : ℕ) (c : CoreState State Op Query Reply) (ts : List ℕ) → IsConsistent count c → IsTimed c → IsTimed (steps_of b c ts)
  steps_timed count c [] k h = h
  steps_timed count c (t ∷ ts) k h = steps_timed count (step_of b c t) ts (step_consistent b count c t k) (step_timed b count c k h t)

  steps_append : (c : CoreState State Op Query Reply) (ts us : List ℕ) → steps_of b c (ts ++ us) ≡ steps_of b (steps_of b c ts) us
  steps_append c [] us = refl
  steps_append c (t ∷ ts) us = steps_append (step_of b c t) ts us

  pub fresh_reached : FreshReachedLaw b
  fresh_reached count c k fresh = record { start = c; steps = []; consistent = k; fresh = fresh; reached = refl }

  pub first_reached : FirstReachedLaw b
  first_reached count initial heads scripts first = fresh_reached count (first_core initial heads scripts) (first_consistent count initial heads scripts first) (first_fresh initial heads scripts)

  pub created_reached : CreatedReachedLaw b
  created_reached initial object init scripts within = fresh_reached (length scripts) (created_core initial object init scripts) (created_consistent initial object init scripts within)
      (first_fresh initial (heads_from (length scripts) object init 0 (length scripts)) scripts)

  pub resumed_reached : ResumedReachedLaw b
  resumed_reached count initial base heads logs scripts a = fresh_reached count (resumed_core initial base heads logs scripts) (resumed_consistent count initial base heads logs scripts a) (resumed_fresh initial base heads logs scripts)

  pub steps_reached : StepsReachedLaw b
  steps_reached count c ts h = record { start = h.start; steps = h.steps ++ ts; consistent = h.consistent; fresh = h.fresh; reached = steps_append h.start h.steps ts ∙ ap (λ (z : CoreState State Op Query Reply). steps_of b z ts) h.reached }

  pub step_reached : StepReachedLaw b
  step_reached count c t h = steps_reached count c (t ∷ []) h

  pub reached_consistent : ReachedConsistentLaw b
  reached_consistent count c h = subst (IsConsistent count) h.reached (steps_consistent b count h.start h.steps h.consistent)

  pub reached_lawful : (count : ℕ) (c : CoreState State Op Query Reply) → IsReached b count c → AreLawful b c
  reached_lawful count c h = subst (AreLawful b) h.reached (steps_lawful count h.start h.steps h.consistent (fresh_lawful b h.start h.fresh))

  pub reached_counts : (count : ℕ) (c : CoreState State Op Query Reply) → IsReached b count c → CountsFences c
  reached_counts count c h = subst CountsFences h.reached (steps_counts b h.start h.steps (fresh_counts h.start h.fresh))

  pub reached_timed : (count : ℕ) (c : CoreState State Op Query Reply) → IsReached b count c → IsTimed c
  reached_timed count c h = subst IsTimed h.reached (steps_timed count h.start h.steps h.consistent (fresh_timed h.start h.fresh))

  pub reached_report : ReportLaw b
  reached_report count c h = lawful_report b count c (reached_consistent count c h) (reached_lawful count c h)

  pub reached_order : OrderLaw b
  reached_order count c h = timed_order count c (reached_consistent count c h) (reached_timed count c h) (all_counted b c (reached_lawful count c h))

  pub reached_returns : ReturnLaw b
  reached_returns count c h t place th ts at now enough =
      let call = ordered_update place (current_of th) (next_call th) now ((reached_lawful count c h).each t th at).suits in
      returns_in_time b count c (reached_consistent count c h) t place th at call.0 call.1 now ts enough
