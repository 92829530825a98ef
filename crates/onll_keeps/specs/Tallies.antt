-- How much the calls count that a work made at its seat.
use Rattle.std.specs.Prelude.{ℕ, List, [], ◌∷◌, ◌+◌, ◌≡◌, Option, Result, Ok, Err}
use Rattle.onll_model.specs.declared.call.Call.{Call}
use Rattle.onll_model.specs.declared.call.CallEnd.{CallEnd}
use Rattle.onll_model.specs.Object.{Behaviour}
use Rattle.onll_pmem.specs.Pmem.{DeviceView}
use Rattle.onll_shared.specs.declared.calls.UpdateFault.{UpdateFault}
use Rattle.onll_shared.specs.declared.calls.UpdateFault.TheVariants as faults
use Rattle.onll_balance.specs.Measure.{back_by, out_by, tally_of}
use Rattle.onll_threads.specs.Acts.{SeatView}
use Rattle.onll_threads.specs.Seats.{Did}

module _ {State Op Query Reply Device : Type 0} (b : Behaviour State Op Query Reply) (means : Device → DeviceView)
    (first : Option (SeatView State Device)) (count : Call State Op Query Reply → CallEnd State Op Query Reply → ℕ) where
  -- the calls that were made at a seat since it began count so much in all
  pub record HasTallied (sum : ℕ) (now : SeatView State Device) : Type 0 where
    pub calls : List (Call State Op Query Reply)
    pub ends : List (CallEnd State Op Query Reply)
    pub did : Did b means first calls ends now
    pub sum_is : tally_of count calls ends ≡ sum

-- an answer says what the calls count
abbrev pub SaysTally : {State Op Query Reply Work Answer : Type 0} → (Call State Op Query Reply → CallEnd State Op Query Reply → ℕ)
    → (Answer → ℕ) → Work → Work → List (Call State Op Query Reply) → List (CallEnd State Op Query Reply) → Answer → Type 0
SaysTally count said old new calls ends answer = tally_of count calls ends ≡ said answer

-- An answer says two numbers: what the calls took out, and what they put in, or may have put in where a fence failed.
abbrev pub SaysBoth : {State Op Query Reply Answer : Type 0} → (Op → Reply → ℕ) → (Op → Reply → ℕ) → (Op → ℕ) → (Answer → ℕ)
    → (Answer → ℕ) → List (Call State Op Query Reply) → List (CallEnd State Op Query Reply) → Answer → Type 0
SaysBoth out back most outs backs calls ends answer =
    (tally_of (out_by out) calls ends ≡ outs answer) × (tally_of (back_by back most) calls ends ≡ backs answer)

-- what an update took out by its reply
abbrev pub out_of : {Op Reply : Type 0} → (Op → Reply → ℕ) → Op → Result Reply UpdateFault → ℕ
out_of out op (Ok reply) = out op reply
out_of out op (Err fault) = 0

-- what it put in: by its reply, and at most, where its fence failed
abbrev pub back_of : {Op Reply : Type 0} → (Op → Reply → ℕ) → (Op → ℕ) → Op → Result Reply UpdateFault → ℕ
back_of back most op (Ok reply) = back op reply
back_of back most op (Err (faults.FenceFailed place)) = most op
back_of back most op (Err (faults.Broken place)) = 0
back_of back most op (Err faults.NodesFull) = 0
back_of back most op (Err (faults.LogFull free)) = 0

-- the sum of what answers say
abbrev pub sum_of : {A : Type 0} → (A → ℕ) → List A → ℕ
sum_of said [] = 0
sum_of said (a ∷ answers) = said a + sum_of said answers
