-- What became of the calls that one thread makes on its pass.
use Rattle.std.specs.Prelude.{ℕ, List, [], ◌∷◌, ◌≡◌, ◌≤◌, ◌+◌, ◌*◌, length, Option, Some, None, Ok, Err}
use Rattle.std.specs.List.{AllByRecursion}
use mathlib.Core.List.{IsPrefix}
use Rattle.onll_model.specs.declared.call.Call.{Call}
use Rattle.onll_model.specs.declared.call.Call.TheVariants.{Update, Ask}
use Rattle.onll_model.specs.declared.call.CallEnd.{CallEnd}
use Rattle.onll_model.specs.declared.call.CallEnd.TheVariants.{Answered, Running, Ordered, FenceFailed, Broken}
use Rattle.onll_model.specs.Object.{Behaviour}
use Rattle.onll_model.specs.Legal.{IsOver, IsLegalThread}
use Rattle.onll_pmem.specs.Pmem.{DeviceView}
use Rattle.onll_log.specs.Log.{free_of}
use Rattle.onll_trace.specs.Spots.{base_of}
use Rattle.onll_shared.specs.declared.calls.UpdateFault.TheVariants as lasting
use Rattle.onll_shared.specs.Passes.{OnllView, PassView}
use Rattle.onll_shared.specs.Calls.{IsSamePass, HasUpdated, HasRead}

-- the place of a thread's update whose fence failed
abbrev pub failed_in : {State Op Query Reply : Type 0} → List (CallEnd State Op Query Reply) → Option ℕ
failed_in [] = None
failed_in (FenceFailed place ∷ ends) = Some place
failed_in (Answered reply place ∷ ends) = failed_in ends
failed_in (Running ∷ ends) = failed_in ends
failed_in (Ordered place ∷ ends) = failed_in ends
failed_in (Broken place ∷ ends) = failed_in ends

-- an answered call stands at one of the first places, as many as these
abbrev pub StandsIn : {State Op Query Reply : Type 0} → ℕ → CallEnd State Op Query Reply → Type 0
StandsIn nodes (Answered reply place) = place ≤ nodes
StandsIn nodes Running = Unit {0}
StandsIn nodes (Ordered place) = Unit {0}
StandsIn nodes (FenceFailed place) = Unit {0}
StandsIn nodes (Broken place) = Unit {0}

module _ {State Op Query Reply Device : Type 0} (b : Behaviour State Op Query Reply) (means : Device → DeviceView)
    (onll : OnllView State) where
  -- what a call did that ended so
  abbrev pub CallDone : Call State Op Query Reply → PassView State Device → PassView State Device
      → CallEnd State Op Query Reply → Type 0
  CallDone (Update op) old new (Answered reply place) =
      HasUpdated b means onll op old new (Ok (record { place = place; reply = reply }))
  CallDone (Update op) old new Running = ⊥
  CallDone (Update op) old new (Ordered place) = ⊥
  CallDone (Update op) old new (FenceFailed place) = HasUpdated b means onll op old new (Err (lasting.FenceFailed place))
  CallDone (Update op) old new (Broken place) = HasUpdated b means onll op old new (Err (lasting.Broken place))
  CallDone (Ask query) old new (Answered reply place) = (front : ℕ) × HasRead b means onll query old new place front reply
  CallDone (Ask query) old new Running = ⊥
  CallDone (Ask query) old new (Ordered place) = ⊥
  CallDone (Ask query) old new (FenceFailed place) = ⊥
  CallDone (Ask query) old new (Broken place) = ⊥

-- What a thread's calls made so far: they are legal over all that its pass knows, no answer stands above what it has seen, and the
-- pass is broken where a fence failed.
pub record RunsSo {State Op Query Reply Device : Type 0} (b : Behaviour State Op Query Reply) (first : State)
    (calls : List (Call State Op Query Reply)) (ends : List (CallEnd State Op Query Reply))
    (pass : PassView State Device) : Type 0 where
  pub legal : IsLegalThread b first (base_of pass.spot) pass.spot.known pass.spot.me.thread calls ends
  pub low : AllByRecursion (StandsIn pass.spot.me.part.seen) ends
  pub over : AllByRecursion IsOver ends
  pub failed : failed_in ends ≡ pass.broken

-- the pass has a node, and lines for any window, for each of so many updates
pub record HasRoomFor {State Device : Type 0} (means : Device → DeviceView) (onll : OnllView State) (updates : ℕ)
    (pass : PassView State Device) : Type 0 where
  pub nodes : length pass.spot.me.own + updates ≤ pass.room
  pub lines : (onll.trace.plan.threads + 1) * updates ≤ free_of (length (means pass.log.device).read) pass.log.entries

-- one where a fence failed
abbrev pub fault_in : Option ℕ → ℕ
fault_in None = 0
fault_in (Some place) = 1

-- The pass has gone on: its log has an entry more, made with one fence, for each update that it has ordered since, and its device
-- has as many lines, and counts a fault more where it was broken since.
pub record HasGoneOn {State Device : Type 0} (means : Device → DeviceView) (old new : PassView State Device) : Type 0 where
  pub same : IsSamePass old new
  pub goes_on : IsPrefix old.log.entries new.log.entries
  pub entries : length new.log.entries + length old.spot.me.own ≡ length old.log.entries + length new.spot.me.own
  pub fences : new.log.fences + length old.spot.me.own ≡ old.log.fences + length new.spot.me.own
  pub count : (means new.log.device).fences + length old.spot.me.own ≡ (means old.log.device).fences + length new.spot.me.own
  pub faults : (means new.log.device).faults + fault_in old.broken ≡ (means old.log.device).faults + fault_in new.broken
  pub lines : length (means new.log.device).read ≡ length (means old.log.device).read
