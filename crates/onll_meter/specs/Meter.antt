-- A meter is how much was counted.
use Rattle.std.proofs.Common.{ℕ, List, [], ◌∷◌, ◌≡◌, ◌+◌, ◌-◌, ◌^◌, ◌++◌, Option, Some, if◌then◌else◌, nat_lt, get_or, codes, decimal, refl}
use Rattle.onll_rows.specs.Sketch.{Coding, Sketch}
use Rattle.onll_meter.specs.declared.meter.Meter.{Meter}
use Rattle.onll_meter.specs.declared.meter.MeterOp.{MeterOp}
use Rattle.onll_meter.specs.declared.meter.MeterOp.TheVariants.{Count}
use Rattle.onll_meter.specs.declared.meter.MeterQuery.{MeterQuery}
use Rattle.onll_meter.specs.declared.meter.MeterReply.{MeterReply}
use Rattle.onll_meter.specs.declared.meter.MeterReply.TheVariants.{Counted, AtItsEnd}

abbrev pub next : Meter → MeterOp → Meter
next s Count = if nat_lt s.count (2 ^ 64 - 1) then record { count = s.count + 1 } else s

abbrev pub reply : Meter → MeterOp → MeterReply
reply s Count = if nat_lt s.count (2 ^ 64 - 1) then Counted (s.count + 1) else AtItsEnd

pub reads : (op : MeterOp) → Some Count ≡ Some op
reads Count = refl

abbrev pub meter : Sketch Meter MeterOp MeterQuery MeterReply
meter = let rows : Coding MeterOp = record { words = λ op. 1 ∷ []; op_of = λ ws. Some Count; reads = reads } in
    record { next = next; reply = reply; answer = λ s q. Counted s.count; rows = rows; text = λ s. codes "meter " ++ decimal s.count }

-- the meter that was saved as these words
abbrev pub meter_of : List ℕ → Option Meter
meter_of words = Some (record { count = get_or words 0 0 })

-- a meter that has counted nothing
abbrev pub zero : Meter
zero = record { count = 0 }
