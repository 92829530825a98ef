-- Counters that are added to by turns.
use Rattle.std.specs.Prelude.{List, map}
use Rattle.std.specs.List.{AllByRecursion}
use Rattle.onll_pmem.specs.Pmem.{DeviceView}
use Rattle.onll_trace.specs.Closing.{AreAll}
use Rattle.onll_shared.specs.Passes.{OnllView, PassView, IsTied, spot_of}
use Rattle.onll_rows.specs.Sketch.{behaviour_of}
use Rattle.onll_counter.specs.declared.Count.{Count}
use Rattle.onll_counter.specs.Counter.{counter}

-- these are all passes of a counter, between two calls
pub record AreBetween {Device : Type 0} (means : Device → DeviceView) (onll : OnllView Count) (passes : List (PassView Count Device))
    : Type 0 where
  pub all : AreAll onll.trace (map spot_of passes)
  pub tied : AllByRecursion (IsTied (behaviour_of counter) means onll) passes
