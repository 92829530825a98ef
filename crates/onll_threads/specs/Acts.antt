-- What one thread did on its pass, that decides each call after the outcomes of those before.
use Rattle.std.specs.Prelude.{ℕ, List, [], ◌∷◌, ◌++◌, ◌≡◌, length, Result, Ok, Err}
use Rattle.onll_model.specs.declared.call.Call.{Call}
use Rattle.onll_model.specs.declared.call.Call.TheVariants.{Update}
use Rattle.onll_model.specs.declared.call.CallEnd.{CallEnd}
use Rattle.onll_model.specs.declared.call.CallEnd.TheVariants.{Answered, FenceFailed, Broken}
use Rattle.onll_model.specs.Object.{Behaviour}
use Rattle.onll_pmem.specs.Pmem.{DeviceView}
use Rattle.onll_shared.specs.declared.calls.Receipt.{Receipt}
use Rattle.onll_shared.specs.declared.calls.UpdateFault.{UpdateFault}
use Rattle.onll_shared.specs.declared.calls.UpdateFault.TheVariants as faults
use Rattle.onll_shared.specs.Calls.{HasRead}
use Rattle.onll_shared.specs.Passes.{OnllView, PassView, IsTied}
use Rattle.onll_run.specs.Outcomes.{RunsSo, HasGoneOn}

-- an object, and a thread's pass of it
pub record SeatView (State Device : Type 0) : Type 0 where
  pub onll : OnllView State
  pub pass : PassView State Device

abbrev pub seat_of : {State Device : Type 0} → OnllView State → PassView State Device → SeatView State Device
seat_of onll pass = record { onll = onll; pass = pass }

-- the greatest place that the pass has seen
abbrev pub seen_in : {State Device : Type 0} → PassView State Device → ℕ
seen_in pass = pass.spot.me.part.seen

-- The pass was this at first, and these calls were made on it since, which ended so; whatever calls follow.
pub record HasActed {State Op Query Reply Device : Type 0} (b : Behaviour State Op Query Reply) (means : Device → DeviceView)
    (onll : OnllView State) (calls : List (Call State Op Query Reply)) (ends : List (CallEnd State Op Query Reply))
    (first now : PassView State Device) : Type 0 where
  pub tied : IsTied b means onll now
  pub runs : (rest : List (Call State Op Query Reply)) → RunsSo b onll.first (calls ++ rest) ends now
  pub many : length ends ≡ length calls
  pub gone_on : HasGoneOn means first now

-- nothing was done on the pass yet
abbrev pub IsUnused : {State Op Query Reply Device : Type 0} → Behaviour State Op Query Reply → (Device → DeviceView) → OnllView State
    → PassView State Device → Type 0
IsUnused {State} {Op} {Query} {Reply} {Device} b means onll pass = HasActed b means onll [] [] pass pass

-- the receipt of an update that was answered at this place
abbrev pub received : {State Op Query Reply : Type 0} → ℕ → Result Reply UpdateFault → Result (Receipt State Op Query Reply) UpdateFault
received place (Ok reply) = Ok (record { place = place; reply = reply })
received place (Err fault) = Err fault

-- the reply of an update
abbrev pub reply_in : {State Op Query Reply : Type 0} → Result (Receipt State Op Query Reply) UpdateFault → Result Reply UpdateFault
reply_in (Ok receipt) = Ok receipt.reply
reply_in (Err fault) = Err fault

-- an update that was refused made no call
abbrev pub calls_of : {State Op Query Reply : Type 0} → Op → Result Reply UpdateFault → List (Call State Op Query Reply)
calls_of op (Ok reply) = Update op ∷ []
calls_of op (Err (faults.FenceFailed place)) = Update op ∷ []
calls_of op (Err (faults.Broken place)) = Update op ∷ []
calls_of op (Err faults.NodesFull) = []
calls_of op (Err (faults.LogFull free)) = []

-- what became of it, where it was answered at this place
abbrev pub ends_of : {State Op Query Reply : Type 0} → ℕ → Result Reply UpdateFault → List (CallEnd State Op Query Reply)
ends_of place (Ok reply) = Answered reply place ∷ []
ends_of place (Err (faults.FenceFailed failed)) = FenceFailed failed ∷ []
ends_of place (Err (faults.Broken failed)) = Broken failed ∷ []
ends_of place (Err faults.NodesFull) = []
ends_of place (Err (faults.LogFull free)) = []

module _ {State Op Query Reply Device : Type 0} (b : Behaviour State Op Query Reply) (means : Device → DeviceView)
    (onll : OnllView State) where
  -- a read was answered at the place that the pass then has seen
  abbrev pub HasReadSo : Query → PassView State Device → PassView State Device → Reply → Type 0
  HasReadSo query old new reply = (front : ℕ) × HasRead b means onll query old new (seen_in new) front reply

  -- whatever was done before, these calls were made since, and ended so
  abbrev pub Acts : List (Call State Op Query Reply) → List (CallEnd State Op Query Reply) → PassView State Device
      → PassView State Device → Type 0
  Acts calls ends old new =
      (first : PassView State Device) (before : List (Call State Op Query Reply)) (befores : List (CallEnd State Op Query Reply))
      → HasActed b means onll before befores first old → HasActed b means onll (before ++ calls) (befores ++ ends) first new
