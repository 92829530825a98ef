-- What is said of devices that were not had, or not kept.

use Rattle.std.specs.Prelude.{ℕ, ◌≡◌, List, Some}
use Rattle.onll_outside.specs.Views.{StoreView, Rose}
use Rattle.onll_outside.specs.declared.OutsideFault.{OutsideFault}
use Rattle.onll_outside.specs.declared.OutsideFault.TheVariants as outside
use Rattle.onll_outside.specs.declared.store.FaultKind.{FaultKind}
use Rattle.onll_open.specs.declared.fault.DeviceFault.{DeviceFault}
use Rattle.onll_open.specs.declared.fault.DeviceFault.TheVariants as devices
use Rattle.onll_open.specs.Names.{log_name}
use Rattle.onll_task.specs.declared.ending.Ending.{Ending}
use Rattle.onll_task.specs.declared.ending.Ending.TheVariants.{WriteFault}
use Rattle.onll_task.specs.declared.answer.Stop.{Stop}
use Rattle.onll_task.specs.declared.answer.Stop.TheVariants.{NoMemory}
use Rattle.onll_task.specs.Printed.{write_fault_text}
use Rattle.onll_task.specs.Stop.{StopSays}

-- this line says that the log of this thread can't be written
abbrev pub SaysLog : List ℕ → ℕ → Ending → List ℕ → Type 0
SaysLog logs thread ending text = (ending ≡ WriteFault) × (text ≡ write_fault_text (log_name logs thread))

-- so it is said that a log's device was not had, where there is memory to
abbrev pub SaysDevice : List ℕ → DeviceFault → Stop → Type 0
SaysDevice logs (devices.NotMade thread) stop = StopSays stop (SaysLog logs thread)
SaysDevice logs (devices.NotReopened thread) stop = StopSays stop (SaysLog logs thread)
SaysDevice logs devices.NoMemory stop = stop ≡ NoMemory

-- and that it was not kept
abbrev pub SaysKept : List ℕ → ℕ → OutsideFault → Stop → Type 0
SaysKept logs thread outside.Failed stop = StopSays stop (SaysLog logs thread)
SaysKept logs thread outside.NoMemory stop = stop ≡ NoMemory

-- a call of this kind failed for the log of this thread, which this line says
pub record DeviceFails (kind : FaultKind) (logs : List ℕ) (thread : ℕ) (store after : StoreView) (ending : Ending) (text : List ℕ)
    : Type 0 where
  pub says : SaysLog logs thread ending text
  pub rose : Rose store.faults after.faults
  pub last : after.last ≡ Some (record { kind = kind; name = log_name logs thread })
