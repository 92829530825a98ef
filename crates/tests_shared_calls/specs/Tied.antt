-- The passes of all threads of one shared object, between their calls.
use Rattle.std.specs.Prelude.{List, map}
use Rattle.std.specs.List.{AllByRecursion}
use Rattle.onll_model.specs.Object.{Behaviour}
use Rattle.onll_pmem.specs.Pmem.{DeviceView}
use Rattle.onll_trace.specs.Closing.{AreAll}
use Rattle.onll_shared.specs.Passes.{OnllView, PassView, IsTied, spot_of}

-- There is a pass for each thread, in any order, and each is tied to the object.
pub record AreTied {State Op Query Reply Device : Type 0} (b : Behaviour State Op Query Reply)
    (means : Device → DeviceView) (onll : OnllView State) (passes : List (PassView State Device)) : Type 0 where
  pub all : AreAll onll.trace (map spot_of passes)
  pub tied : AllByRecursion (IsTied b means onll) passes
