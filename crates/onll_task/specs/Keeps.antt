-- A device that is kept as a file, and how that ends a call where it fails.

use Rattle.std.specs.Prelude.{ℕ, List, ◌≡◌, ◌⊎◌}
use Rattle.onll_outside.specs.Views.{StoreView}
use Rattle.onll_areas.specs.Keeping.{DeviceNotMade, DeviceNotKept, FenceNotMade}
use Rattle.onll_task.specs.declared.ending.Ending.{Ending}
use Rattle.onll_task.specs.declared.ending.Ending.TheVariants.{WriteFault, Faulty}
use Rattle.onll_task.specs.Printed.{write_fault_text}

-- A device with these lines, durable after so many fences, is not kept as the file of this name, and the call ends so: the device could not
-- be made, or not be kept, which is a write that failed; or a fence of it failed, and this is said.
abbrev pub KeepStops : (store after : StoreView) (name : List ℕ) (lines : List (List ℕ)) (fences : ℕ) (said : List ℕ)
    → Ending → List ℕ → Type 0
KeepStops store after name lines fences said WriteFault text =
    (text ≡ write_fault_text name) × (DeviceNotMade store after name ⊎ DeviceNotKept store after name lines fences)
KeepStops store after name lines fences said Faulty text = (text ≡ said) × FenceNotMade store after name fences
KeepStops store after name lines fences said ending text = ⊥
