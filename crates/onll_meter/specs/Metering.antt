-- What clerks did over eras.
use Rattle.std.specs.Prelude.{ℕ, List}
use Rattle.onll_rows.specs.Sketch.{behaviour_of}
use Rattle.onll_outside.specs.Views.{StoreView}
use Rattle.onll_pmem.specs.Pmem.{DeviceView}
use Rattle.onll_live.specs.declared.fault.NotLived.{NotLived}
use Rattle.onll_live.specs.declared.living.Lived.{Lived}
use Rattle.onll_live.specs.Living.{CannotLive, HasLived}
use Rattle.onll_live.specs.Plain.{plain_of}
use Rattle.onll_meter.specs.declared.clerk.Clerk.{Clerk}
use Rattle.onll_meter.specs.declared.clerk.Tally.{Tally}
use Rattle.onll_meter.specs.declared.meter.Meter.{Meter}
use Rattle.onll_meter.specs.declared.meter.MeterOp.{MeterOp}
use Rattle.onll_meter.specs.declared.meter.MeterQuery.{MeterQuery}
use Rattle.onll_meter.specs.declared.meter.MeterReply.{MeterReply}
use Rattle.onll_meter.specs.Counting.{says_counted}
use Rattle.onll_meter.specs.Meter.{meter, meter_of, zero}

module _ {R Device : Type 0} (means : Device → DeviceView) (name : List ℕ) where
  -- The meter was found in an era over its files, which was made durable; clerks counted in it and in those after it, each of which begins
  -- with what was counted; and the meter was given back.
  abbrev pub HasLivedOn : StoreView → StoreView → List (Clerk R) → Lived Meter Device (Clerk R) Tally MeterOp MeterQuery MeterReply → Type 0
  HasLivedOn old new clerks lived =
      HasLived (behaviour_of meter) means (says_counted {R = R}) 4 meter.text (plain_of meter_of) zero name old new clerks lived

  -- Clerks didn't count, or were handed back some eras later.
  abbrev pub CannotLiveOn : StoreView → StoreView → List (Clerk R) → NotLived (Clerk R) → Type 0
  CannotLiveOn old new clerks e =
      CannotLive (behaviour_of meter) means (says_counted {R = R}) 4 meter.text (plain_of meter_of) zero name
      old new clerks e
