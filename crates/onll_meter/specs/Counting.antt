-- How much clerks count, and how much they have left.
use Rattle.std.specs.Prelude.{ℕ, List, ◌≡◌, ◌+◌, Option, Result, Ok, Err}
use Rattle.onll_balance.specs.Measure.{out_by, tally_of}
use Rattle.onll_keeps.specs.Tallies.{HasTallied, out_of}
use Rattle.onll_model.specs.declared.call.Call.{Call}
use Rattle.onll_model.specs.declared.call.CallEnd.{CallEnd}
use Rattle.onll_pmem.specs.Pmem.{DeviceView}
use Rattle.onll_rows.specs.Sketch.{behaviour_of}
use Rattle.onll_shared.specs.declared.calls.UpdateFault.{UpdateFault}
use Rattle.onll_shared.specs.declared.calls.UpdateFault.TheVariants as faults
use Rattle.onll_threads.specs.Acts.{SeatView, calls_of, ends_of, seen_in}
use Rattle.onll_threads.specs.Seats.{ActsAt}
use Rattle.onll_meter.specs.declared.clerk.Clerk.{Clerk}
use Rattle.onll_meter.specs.declared.clerk.Ending.{Ending}
use Rattle.onll_meter.specs.declared.clerk.Ending.TheVariants as why
use Rattle.onll_meter.specs.declared.clerk.Tally.{Tally}
use Rattle.onll_meter.specs.declared.meter.Meter.{Meter}
use Rattle.onll_meter.specs.declared.meter.MeterOp.{MeterOp}
use Rattle.onll_meter.specs.declared.meter.MeterOp.TheVariants.{Count}
use Rattle.onll_meter.specs.declared.meter.MeterQuery.{MeterQuery}
use Rattle.onll_meter.specs.declared.meter.MeterReply.{MeterReply}
use Rattle.onll_meter.specs.declared.meter.MeterReply.TheVariants.{Counted, AtItsEnd}
use Rattle.onll_meter.specs.Meter.{meter}

-- one thing, where the meter isn't at its end
abbrev pub counted : MeterOp → MeterReply → ℕ
counted Count (Counted total) = 1
counted Count AtItsEnd = 0

-- how much an update counted
abbrev pub counted_by : Result MeterReply UpdateFault → ℕ
counted_by done = out_of counted Count done

-- what a clerk has of a count's reply: how much was counted with it, or why it ends
abbrev pub total_said : Result MeterReply UpdateFault → Result ℕ Ending
total_said (Ok (Counted total)) = Ok total
total_said (Ok AtItsEnd) = Err why.AtItsEnd
total_said (Err faults.NodesFull) = Err why.Full
total_said (Err (faults.LogFull free)) = Err why.Full
total_said (Err (faults.FenceFailed place)) = Err why.Broken
total_said (Err (faults.Broken place)) = Err why.Broken

-- One count was made at a seat, the one call there, and this is had of its reply.
abbrev pub CountsOne : {Device : Type 0} → (Device → DeviceView) → Option (SeatView Meter Device) → SeatView Meter Device
    → SeatView Meter Device → Result ℕ Ending → Type 0
CountsOne means first old new said = (done : Result MeterReply UpdateFault)
    × ActsAt (behaviour_of meter) means first (calls_of Count done) (ends_of (seen_in new.pass) done) old new × (said ≡ total_said done)

-- one thing, where a clerk goes on
abbrev pub one_counted : Result ℕ Ending → ℕ
one_counted (Ok total) = 1
one_counted (Err ending) = 0

module _ {Device : Type 0} (means : Device → DeviceView) (first : Option (SeatView Meter Device)) where
  -- the calls that were made at a seat counted so much
  abbrev pub HasCounted : ℕ → SeatView Meter Device → Type 0
  HasCounted n now = HasTallied (behaviour_of meter) means first (out_by counted) n now

  -- they counted what is no longer left
  pub record HasCountedOff (old_left new_left : ℕ) (now : SeatView Meter Device) : Type 0 where
    pub many : ℕ
    pub tallied : HasCounted many now
    pub off : many + new_left ≡ old_left

-- what a clerk has left to count falls by what its answered calls counted, so it counts each thing once, over all eras
abbrev pub says_counted : {R : Type 0} → Clerk R → Clerk R → List (Call Meter MeterOp MeterQuery MeterReply)
    → List (CallEnd Meter MeterOp MeterQuery MeterReply) → Tally → Type 0
says_counted old new calls ends tally = tally_of (out_by counted) calls ends + new.left ≡ old.left
