-- What a clerk does at his seat for a request.
use Rattle.std.specs.Prelude.{Bool, true, false, [], ◌∷◌, Option, Result, Ok, Err}
use Rattle.onll_model.specs.declared.call.Call.TheVariants as calls
use Rattle.onll_model.specs.declared.call.CallEnd.TheVariants.{Answered}
use Rattle.onll_pmem.specs.Pmem.{DeviceView}
use Rattle.onll_rows.specs.Sketch.{behaviour_of}
use Rattle.onll_shared.specs.declared.calls.UpdateFault.{UpdateFault}
use Rattle.onll_shared.specs.declared.calls.UpdateFault.TheVariants as faults
use Rattle.onll_threads.specs.Acts.{SeatView, calls_of, ends_of, seen_in}
use Rattle.onll_threads.specs.Seats.{ActsAt}
use Rattle.onll_locks.specs.declared.clerk.Ending.{Ending}
use Rattle.onll_locks.specs.declared.clerk.Ending.TheVariants as why
use Rattle.onll_locks.specs.declared.locks.Locks.{Locks}
use Rattle.onll_locks.specs.declared.locks.LockReply.{LockReply}
use Rattle.onll_locks.specs.declared.request.Request.{Request}
use Rattle.onll_locks.specs.declared.request.Request.TheVariants.{Update, Ask}
use Rattle.onll_locks.specs.Locks.{locks}

-- What is done for a request at a seat: an update or a read, which is the one call that is made there, with this reply or refusal.
abbrev pub DoesRequest : {Device : Type 0} → (Device → DeviceView) → Option (SeatView Locks Device) → Request
    → Result LockReply UpdateFault → SeatView Locks Device → SeatView Locks Device → Type 0
DoesRequest means first (Update op) done old new =
    ActsAt (behaviour_of locks) means first (calls_of op done) (ends_of (seen_in new.pass) done) old new
DoesRequest means first (Ask query) (Ok reply) old new =
    ActsAt (behaviour_of locks) means first (calls.Ask query ∷ []) (Answered reply (seen_in new.pass) ∷ []) old new
DoesRequest means first (Ask query) (Err fault) old new = ⊥

-- a clerk ended well: there were no more requests
abbrev pub is_good : Ending → Bool
is_good why.NoMore = true
is_good ending = false

-- a clerk goes on after a reply, and ends where there was none
abbrev pub going_on : Result LockReply UpdateFault → Result (Unit {0}) Ending
going_on (Ok reply) = Ok tt
going_on (Err faults.NodesFull) = Err why.Full
going_on (Err (faults.LogFull free)) = Err why.Full
going_on (Err (faults.FenceFailed place)) = Err why.Broken
going_on (Err (faults.Broken place)) = Err why.Broken
