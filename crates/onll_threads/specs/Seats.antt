-- What was done at a thread's seat.
use Rattle.std.specs.Prelude.{ℕ, List, [], ◌∷◌, ◌++◌, ◌≡◌, Option, Some, None, if◌then◌else◌, nat_le}
use Rattle.onll_model.specs.declared.call.Call.{Call}
use Rattle.onll_model.specs.declared.call.Call.TheVariants.{Ask}
use Rattle.onll_model.specs.declared.call.CallEnd.{CallEnd}
use Rattle.onll_model.specs.declared.call.CallEnd.TheVariants.{Answered}
use Rattle.onll_model.specs.Object.{Behaviour}
use Rattle.onll_pmem.specs.Pmem.{DeviceView}
use Rattle.onll_threads.specs.Acts.{SeatView, HasActed, HasReadSo, seen_in}

-- a reply of a seat that has seen so far, where that is not before this place
abbrev pub reply_from : {Reply : Type 0} → ℕ → ℕ → Reply → Option Reply
reply_from place seen reply = if nat_le place seen then Some reply else None

module _ {State Op Query Reply Device : Type 0} (b : Behaviour State Op Query Reply) (means : Device → DeviceView)
    (first : Option (SeatView State Device)) where
  -- the seat began as the first, and these calls were made at it since, which ended so
  pub record Did (calls : List (Call State Op Query Reply)) (ends : List (CallEnd State Op Query Reply))
      (now : SeatView State Device) : Type 0 where
    pub began : SeatView State Device
    pub began_is : first ≡ Some began
    pub same : now.onll ≡ began.onll
    pub acted : HasActed b means now.onll calls ends began.pass now.pass

  -- there are calls that were made at the seat since it began
  pub record HasCalled (now : SeatView State Device) : Type 0 where
    pub calls : List (Call State Op Query Reply)
    pub ends : List (CallEnd State Op Query Reply)
    pub did : Did calls ends now

  -- the same, and what is promised of them and of an answer is so
  pub record KeepsPromise {Answer : Type 0}
      (promise : List (Call State Op Query Reply) → List (CallEnd State Op Query Reply) → Answer → Type 0)
      (now : SeatView State Device) (answer : Answer) : Type 0 where
    pub calls : List (Call State Op Query Reply)
    pub ends : List (CallEnd State Op Query Reply)
    pub did : Did calls ends now
    pub kept : promise calls ends answer

  -- whatever was done before, these calls were made since, and ended so
  abbrev pub ActsAt : List (Call State Op Query Reply) → List (CallEnd State Op Query Reply) → SeatView State Device
      → SeatView State Device → Type 0
  ActsAt calls ends old new = (before : List (Call State Op Query Reply)) (befores : List (CallEnd State Op Query Reply))
      → Did before befores old → Did (before ++ calls) (befores ++ ends) new

  -- A query was answered at the newest place that is durable, and the reply is given exactly where that is not before this place.
  pub record HasReadFrom (place : ℕ) (query : Query) (old new : SeatView State Device) (heard : Option Reply) : Type 0 where
    pub reply : Reply
    pub read : HasReadSo b means old.onll query old.pass new.pass reply
    pub acts : ActsAt (Ask query ∷ []) (Answered reply (seen_in new.pass) ∷ []) old new
    pub heard_is : heard ≡ reply_from place (seen_in new.pass) reply
