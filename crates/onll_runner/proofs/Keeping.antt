-- What a store keeps of the logs that a run hands back.

use Rattle.std.proofs.Common.{ℕ, zero, suc, true, false, Bool, List, [], ◌∷◌, ◌≡◌, ◌+◌, ◌≤◌, ◌||◌, ◌⊎◌, inl, inr, ⊎_elim, length, map, sum_by, Option, Some, None, is_some, refl, sym, ap, ◌∙◌, subst, arith, true≢false}
use Rattle.std.proofs.lemmas.List.Sums.{sum_by-cons}
use Rattle.std.specs.List.{list_any}
use Rattle.onll_pmem.specs.Device.{Mixed}
use Rattle.onll_pmem.specs.Laws.{SameLaw}
use Rattle.onll_pmem.specs.Pmem.{DeviceView, Told, ToldSettled}
use Rattle.onll_log.specs.Log.{LogState}
use Rattle.onll_model.specs.declared.call.CallEnd.{CallEnd}
use Rattle.onll_outside.specs.Views.{StoreView, HoldsImageOf, KeepsDevice, MayKeep, image_bytes, one_fault, fault_of, fences_in}
use Rattle.onll_run.specs.Outcomes.{failed_in, fault_in}
use Rattle.onll_log.specs.Grammar.{Content}
use Rattle.onll_run.specs.Left.{LogLeft, begun_logs, fenced_in}
use Rattle.onll_run.specs.Ended.{log_left}
use Rattle.onll_run.specs.Making.{device_of}
use Rattle.onll_run.specs.Ran as ran
use Rattle.onll_open.specs.Names.{log_name, log_names}
use Rattle.onll_task.specs.Running.{FileHoldsLog, HoldsLogs, HoldOrStand, HoldTo, broken_threads, fences_of}
use Rattle.onll_open.specs.Keeping.{AreKept, AreKeptTo, MayKeepEach}
use Rattle.onll_runner.specs.RunEnds.{IsAsBefore}

-- ---- files
told_by : (d : DeviceView) → is_some d.told ≡ true → (t : Told) × (d.told ≡ Some t)
told_by d h = by d.told refl h
  where
    by : (o : Option Told) → d.told ≡ o → is_some o ≡ true → (t : Told) × (d.told ≡ Some t)
    by None e h = absurd (true≢false (sym h))
    by (Some t) e h = (t, e)

pub kept_befores : {State Op Query Reply Device : Type 0} (means : Device → DeviceView) (befores : List Content) (ends : List (List (CallEnd State Op Query Reply))) (olds : List Device) (logs : List (LogState Device))
    → ran.AreKeptLogs means befores ends olds logs → length (map means (map device_of logs)) ≡ length befores
kept_befores means [] [] [] [] all = refl
kept_befores means (before ∷ befores) (es ∷ ends) (d ∷ olds) (log ∷ logs) all = ap suc (kept_befores means befores ends olds logs all.1)
kept_befores means [] [] [] (log ∷ logs) all = absurd all
kept_befores means [] [] (d ∷ olds) logs all = absurd all
kept_befores means [] (es ∷ ends) olds logs all = absurd all
kept_befores means (before ∷ befores) [] olds logs all = absurd all
kept_befores means (before ∷ befores) (es ∷ ends) [] logs all = absurd all
kept_befores means (before ∷ befores) (es ∷ ends) (d ∷ olds) [] all = absurd all

module _ (same : SameLaw) where
  -- the file of a device that was kept holds its log
  kept_log : (store : StoreView) (name : List ℕ) (log : LogLeft) (failed : Option ℕ) (d : DeviceView) → (store.tells ≡ true → is_some d.told ≡ true) → d.read ≡ log.read → ToldSettled d.told (fenced_in log failed)
      → KeepsDevice store name d → FileHoldsLog store name log failed
  kept_log store name log None d tells read settled kept = λ on.
      let k = kept on in
      let t = told_by d (tells on) in
      let mixed : Mixed log.read log.read k.0 = subst (λ r. Mixed log.read r k.0) read (subst (λ f. Mixed f d.read k.0) (settled t.0 t.1) (k.2 t.0 t.1)) in
      k.1 ∙ ap (λ image. Some (image_bytes image)) (same log.read k.0 mixed)
  kept_log store name log (Some place) d tells read settled kept = λ on.
      let k = kept on in
      let t = told_by d (tells on) in
      (k.0, subst (λ r. Mixed (fenced_in log (Some place)) r k.0) read (subst (λ f. Mixed f d.read k.0) (settled t.0 t.1) (k.2 t.0 t.1)), k.1)

  -- that of a device that could not be kept does, or is as it was
  held_own : (old new : StoreView) (name : List ℕ) (before : Content) (log : LogLeft) (failed : Option ℕ) (d : DeviceView) → new.tells ≡ old.tells → (new.tells ≡ true → is_some d.told ≡ true) → d.read ≡ log.read
      → ToldSettled d.told (fenced_in log failed) → MayKeep name d old new → IsAsBefore old new name before ⊎ FileHoldsLog new name log failed
  held_own old new name before log failed d tells told read settled h = by new.tells refl
    where
      either : (new.file name ≡ old.file name) ⊎ HoldsImageOf new name d → IsAsBefore old new name before ⊎ FileHoldsLog new name log failed
      either (inl e) = inl (λ on. e)
      either (inr k) = inr (kept_log new name log failed d told read settled (λ on. k))

      by : (t : Bool) → new.tells ≡ t → IsAsBefore old new name before ⊎ FileHoldsLog new name log failed
      by true e = either (h e)
      by false e = inl (λ on. absurd (true≢false (sym on ∙ sym tells ∙ e)))

  module _ {State Op Query Reply Device : Type 0} (means : Device → DeviceView) where
    -- so do those of devices that were given up
    each_held : (old new : StoreView) (name : List ℕ) (t : ℕ) (befores : List Content) (ends : List (List (CallEnd State Op Query Reply))) (olds : List Device) (logs : List (LogState Device)) → new.tells ≡ old.tells
        → (new.tells ≡ true → (d : Device) → is_some (means d).told ≡ true) → ran.AreKeptLogs means befores ends olds logs → MayKeepEach name t (map means (map device_of logs)) old new
        → HoldOrStand (IsAsBefore old new) new (log_names name t (length befores)) befores (map (log_left means) logs) ends
    each_held old new name t [] [] [] [] same_tells tells all may = tt
    each_held old new name t (before ∷ befores) (es ∷ ends) (d ∷ olds) (log ∷ logs) same_tells tells all may = (
      held_own old new (log_name name t) before (log_left means log) (failed_in es) (means log.device) same_tells (λ on. tells on log.device) refl all.0.fenced may.0,
      each_held old new name (suc t) befores ends olds logs same_tells tells all.1 may.1,
    )
    each_held old new name t [] [] [] (log ∷ logs) same_tells tells all may = absurd all
    each_held old new name t [] [] (d ∷ olds) logs same_tells tells all may = absurd all
    each_held old new name t [] (es ∷ ends) olds logs same_tells tells all may = absurd all
    each_held old new name t (before ∷ befores) [] olds logs same_tells tells all may = absurd all
    each_held old new name t (before ∷ befores) (es ∷ ends) [] logs same_tells tells all may = absurd all
    each_held old new name t (before ∷ befores) (es ∷ ends) (d ∷ olds) [] same_tells tells all may = absurd all

    -- devices were kept up to a thread's
    pub held_to : (old new : StoreView) (name : List ℕ) (t : ℕ) (befores : List Content) (ends : List (List (CallEnd State Op Query Reply))) (olds : List Device) (logs : List (LogState Device)) (thread : ℕ) → new.tells ≡ old.tells
        → (new.tells ≡ true → (d : Device) → is_some (means d).told ≡ true) → ran.AreKeptLogs means befores ends olds logs → AreKeptTo name t (map means (map device_of logs)) thread old new
        → HoldTo (IsAsBefore old new) new (log_names name t (length befores)) befores (map (log_left means) logs) ends thread
    held_to old new name t (before ∷ befores) (es ∷ ends) (d ∷ olds) (log ∷ logs) zero same_tells tells all kept =
        each_held old new name t (before ∷ befores) (es ∷ ends) (d ∷ olds) (log ∷ logs) same_tells tells all kept
    held_to old new name t (before ∷ befores) (es ∷ ends) (d ∷ olds) (log ∷ logs) (suc thread) same_tells tells all kept = (
      kept_log new (log_name name t) (log_left means log) (failed_in es) (means log.device) (λ on. tells on log.device) refl all.0.fenced kept.0,
      held_to old new name (suc t) befores ends olds logs thread same_tells tells all.1 kept.1,
    )
    held_to old new name t befores ends olds [] thread same_tells tells all kept = absurd kept
    held_to old new name t [] [] [] (log ∷ logs) thread same_tells tells all kept = absurd all
    held_to old new name t [] [] (d ∷ olds) (log ∷ logs) thread same_tells tells all kept = absurd all
    held_to old new name t [] (es ∷ ends) olds (log ∷ logs) thread same_tells tells all kept = absurd all
    held_to old new name t (before ∷ befores) [] olds (log ∷ logs) thread same_tells tells all kept = absurd all
    held_to old new name t (before ∷ befores) (es ∷ ends) [] (log ∷ logs) thread same_tells tells all kept = absurd all

    -- so do the files of all devices
    pub kept_logs : (store : StoreView) (name : List ℕ) (t : ℕ) (befores : List Content) (ends : List (List (CallEnd State Op Query Reply))) (olds : List Device) (logs : List (LogState Device))
        → (store.tells ≡ true → (d : Device) → is_some (means d).told ≡ true) → ran.AreKeptLogs means befores ends olds logs
        → AreKept name t (map means (map device_of logs)) store → HoldsLogs store name t (map (log_left means) logs) ends
    kept_logs store name t [] [] [] [] tells all kept = tt
    kept_logs store name t (before ∷ befores) (es ∷ ends) (d ∷ olds) (log ∷ logs) tells all kept = (
      kept_log store (log_name name t) (log_left means log) (failed_in es) (means log.device) (λ on. tells on log.device) refl all.0.fenced kept.0,
      kept_logs store name (suc t) befores ends olds logs tells all.1 kept.1,
    )
    kept_logs store name t [] [] [] (log ∷ logs) tells all kept = absurd all
    kept_logs store name t [] [] (d ∷ olds) logs tells all kept = absurd all
    kept_logs store name t [] (es ∷ ends) olds logs tells all kept = absurd all
    kept_logs store name t (before ∷ befores) [] olds logs tells all kept = absurd all
    kept_logs store name t (before ∷ befores) (es ∷ ends) [] logs tells all kept = absurd all
    kept_logs store name t (before ∷ befores) (es ∷ ends) (d ∷ olds) [] tells all kept = absurd all

or_false : (b c : Bool) → (b || c) ≡ false → (b ≡ false) × (c ≡ false)
or_false true c h = absurd (true≢false h)
or_false false c h = (refl, h)

or_true : (b c : Bool) → (b || c) ≡ true → (b ≡ true) ⊎ (c ≡ true)
or_true true c h = inl refl
or_true false c h = inr h

fault_none : (failed : Option ℕ) → is_some failed ≡ false → fault_in failed ≡ 0
fault_none None h = refl
fault_none (Some place) h = absurd (true≢false h)

fault_some : (failed : Option ℕ) → is_some failed ≡ true → fault_in failed ≡ 1
fault_some None h = absurd (true≢false (sym h))
fault_some (Some place) h = refl

one_is : (failed : Option ℕ) → one_fault (fault_in failed) ≡ fault_in failed
one_is None = refl
one_is (Some place) = refl

module _ {State Op Query Reply Device : Type 0} (means : Device → DeviceView) where
  -- the devices that count a fault are those of the threads whose fence failed
  pub faults_sum : (befores : List Content) (ends : List (List (CallEnd State Op Query Reply))) (olds : List Device) (logs : List (LogState Device)) → ran.AreKeptLogs means befores ends olds logs
      → sum_by fault_of (map means (map device_of logs)) ≡ broken_threads ends
  faults_sum [] [] [] [] all = refl
  faults_sum (before ∷ befores) (es ∷ ends) (d ∷ olds) (log ∷ logs) all =
      let one = ap one_fault all.0.faults ∙ one_is (failed_in es) in
      let rest = faults_sum befores ends olds logs all.1 in
      let here = sum_by-cons fault_of (means log.device) (map means (map device_of logs)) in
      let there = sum_by-cons (λ (e : List (CallEnd State Op Query Reply)). fault_in (failed_in e)) es ends in
      omega (arith, one, rest, here, there)
  faults_sum [] [] [] (log ∷ logs) all = absurd all
  faults_sum [] [] (d ∷ olds) logs all = absurd all
  faults_sum [] (es ∷ ends) olds logs all = absurd all
  faults_sum (before ∷ befores) [] olds logs all = absurd all
  faults_sum (before ∷ befores) (es ∷ ends) [] logs all = absurd all
  faults_sum (before ∷ befores) (es ∷ ends) (d ∷ olds) [] all = absurd all

  -- the devices were fenced once for the header of each log that was begun, and for each fence of the logs
  pub fences_sum : (befores : List Content) (ends : List (List (CallEnd State Op Query Reply))) (olds : List Device) (logs : List (LogState Device)) → ran.AreKeptLogs means befores ends olds logs
      → sum_by fences_in (map means (map device_of logs)) ≡ fences_of (map (log_left means) logs) + begun_logs befores
  fences_sum [] [] [] [] all = refl
  fences_sum (before ∷ befores) (es ∷ ends) (d ∷ olds) (log ∷ logs) all =
      let one = all.0.fences in
      let rest = fences_sum befores ends olds logs all.1 in
      let here = sum_by-cons fences_in (means log.device) (map means (map device_of logs)) in
      let there = sum_by-cons (λ (l : LogLeft). l.fences) (log_left means log) (map (log_left means) logs) in
      omega (arith, one, rest, here, there)
  fences_sum [] [] [] (log ∷ logs) all = absurd all
  fences_sum [] [] (d ∷ olds) logs all = absurd all
  fences_sum [] (es ∷ ends) olds logs all = absurd all
  fences_sum (before ∷ befores) [] olds logs all = absurd all
  fences_sum (before ∷ befores) (es ∷ ends) [] logs all = absurd all
  fences_sum (before ∷ befores) (es ∷ ends) (d ∷ olds) [] all = absurd all

  -- ---- threads whose fence failed
  pub kept_many : (befores : List Content) (ends : List (List (CallEnd State Op Query Reply))) (olds : List Device) (logs : List (LogState Device)) → ran.AreKeptLogs means befores ends olds logs → length logs ≡ length ends
  kept_many [] [] [] [] all = refl
  kept_many (before ∷ befores) (es ∷ ends) (d ∷ olds) (log ∷ logs) all = ap suc (kept_many befores ends olds logs all.1)
  kept_many [] [] [] (log ∷ logs) all = absurd all
  kept_many [] [] (d ∷ olds) logs all = absurd all
  kept_many [] (es ∷ ends) olds logs all = absurd all
  kept_many (before ∷ befores) [] olds logs all = absurd all
  kept_many (before ∷ befores) (es ∷ ends) [] logs all = absurd all
  kept_many (before ∷ befores) (es ∷ ends) (d ∷ olds) [] all = absurd all

  -- where no log is broken, no thread is
  pub none_broken : (befores : List Content) (ends : List (List (CallEnd State Op Query Reply))) (olds : List Device) (logs : List (LogState Device)) → ran.AreKeptLogs means befores ends olds logs
      → list_any (λ (log : LogState Device). log.broken) logs ≡ false → broken_threads ends ≡ 0
  none_broken [] [] [] [] all e = refl
  none_broken (before ∷ befores) (es ∷ ends) (d ∷ olds) (log ∷ logs) all e =
      let both = or_false log.broken (list_any (λ (l : LogState Device). l.broken) logs) e in
      let here = fault_none (failed_in es) (sym all.0.broken ∙ both.0) in
      let rest = none_broken befores ends olds logs all.1 both.1 in
      let there = sum_by-cons (λ (x : List (CallEnd State Op Query Reply)). fault_in (failed_in x)) es ends in
      omega (arith, here, rest, there)
  none_broken [] [] [] (log ∷ logs) all e = absurd all
  none_broken [] [] (d ∷ olds) logs all e = absurd all
  none_broken [] (es ∷ ends) olds logs all e = absurd all
  none_broken (before ∷ befores) [] olds logs all e = absurd all
  none_broken (before ∷ befores) (es ∷ ends) [] logs all e = absurd all
  none_broken (before ∷ befores) (es ∷ ends) (d ∷ olds) [] all e = absurd all

  -- where a log is broken, a thread is
  pub some_broken : (befores : List Content) (ends : List (List (CallEnd State Op Query Reply))) (olds : List Device) (logs : List (LogState Device)) → ran.AreKeptLogs means befores ends olds logs
      → list_any (λ (log : LogState Device). log.broken) logs ≡ true → 1 ≤ broken_threads ends
  some_broken [] [] [] [] all e = absurd (true≢false (sym e))
  some_broken (before ∷ befores) (es ∷ ends) (d ∷ olds) (log ∷ logs) all e =
      let there = sum_by-cons (λ (x : List (CallEnd State Op Query Reply)). fault_in (failed_in x)) es ends in
      ⊎_elim
      (λ (t : log.broken ≡ true). let here = fault_some (failed_in es) (sym all.0.broken ∙ t) in let all_ : 1 ≤ broken_threads (es ∷ ends) = omega (arith, here, there) in all_)
      (λ (t : list_any (λ (l : LogState Device). l.broken) logs ≡ true). let rest = some_broken befores ends olds logs all.1 t in let all_ : 1 ≤ broken_threads (es ∷ ends) = omega (arith, rest, there) in all_)
      (or_true log.broken (list_any (λ (l : LogState Device). l.broken) logs) e)
  some_broken [] [] [] (log ∷ logs) all e = absurd all
  some_broken [] [] (d ∷ olds) logs all e = absurd all
  some_broken [] (es ∷ ends) olds logs all e = absurd all
  some_broken (before ∷ befores) [] olds logs all e = absurd all
  some_broken (before ∷ befores) (es ∷ ends) [] logs all e = absurd all
  some_broken (before ∷ befores) (es ∷ ends) (d ∷ olds) [] all e = absurd all
