use Rattle.std.proofs.Common.{◌≡◌, ℕ, ◌+◌, ◌<◌, List, [], ◌∷◌, ◌++◌, length, Some, ⊎_elim, ◌⊎◌, subst, sym, ◌∙◌}
use Rattle.std.specs.List.{AllByRecursion, slice_get}
use Rattle.onll_model.specs.Object.{Behaviour}
use Rattle.onll_model.proofs.Lists.{at_snoc, all_left, all_right, inside}
use Rattle.onll_pmem.specs.Pmem.{DeviceView}
use Rattle.onll_log.specs.Log.{LogState}
use Rattle.onll_shared.specs.Passes.{OnllView, PassView, IsTied}
use Rattle.onll_shared.specs.Starts.{AreLogs, IsWholeLogOf}

-- one log more
pub made_more : {Device : Type 0} (count n : ℕ) (logs new : List (LogState Device)) (log : LogState Device) → ((t : ℕ) (l : LogState Device) → slice_get logs t ≡ Some l → IsWholeLogOf count t l) → length logs ≡ n → IsWholeLogOf count n log → new ≡ logs ++ log ∷ []
    → (t : ℕ) (l : LogState Device) → slice_get new t ≡ Some l → IsWholeLogOf count t l
made_more {Device = Device} count n logs new log all long one is t l e = ⊎_elim
    (λ (a : slice_get logs t ≡ Some l). all t l a)
    (λ (a : (t ≡ length logs) × (log ≡ l)). subst (λ (z : ℕ × LogState Device). IsWholeLogOf count z.0 z.1) (λ i. (sym (a.0 ∙ long) i, a.1 i)) one)
    (at_snoc logs log l t (subst (λ (xs : List (LogState Device)). slice_get xs t ≡ Some l) is e))

-- the last of tied passes, and the others
pub tied_last : {State Op Query Reply Device : Type 0} (b : Behaviour State Op Query Reply) (means : Device → DeviceView) (onll : OnllView State) (passes front : List (PassView State Device)) (p : PassView State Device)
    → AllByRecursion (IsTied b means onll) passes → passes ≡ front ++ p ∷ [] → IsTied b means onll p
tied_last b means onll passes front p a e = (all_right (IsTied b means onll) front (p ∷ []) (subst (AllByRecursion (IsTied b means onll)) e a)).0

pub tied_front : {State Op Query Reply Device : Type 0} (b : Behaviour State Op Query Reply) (means : Device → DeviceView) (onll : OnllView State) (passes front : List (PassView State Device)) (p : PassView State Device)
    → AllByRecursion (IsTied b means onll) passes → passes ≡ front ++ p ∷ [] → AllByRecursion (IsTied b means onll) front
tied_front b means onll passes front p a e = all_left (IsTied b means onll) front (p ∷ []) (subst (AllByRecursion (IsTied b means onll)) e a)

-- each log is that of its thread
pub all_logs : {Device : Type 0} (logs : List (LogState Device)) → ((t : ℕ) (log : LogState Device) → t < length logs → slice_get logs t ≡ Some log → IsWholeLogOf (length logs) t log)
    → AreLogs logs
all_logs logs each t log e = each t log (inside logs t log e) e
