-- Why the next era wasn't begun, by what a call below refused.
use Rattle.std.specs.Prelude.{ℕ}
use Rattle.onll_outside.specs.declared.OutsideFault.{OutsideFault}
use Rattle.onll_outside.specs.declared.OutsideFault.TheVariants.{Failed, NoMemory}
use Rattle.onll_areas.specs.declared.fault.KeepFault.{KeepFault}
use Rattle.onll_areas.specs.declared.fault.KeepFault.TheVariants.{Outside, FenceFailed}
use Rattle.onll_open.specs.declared.fault.FilesFault.{FilesFault}
use Rattle.onll_open.specs.declared.fault.FilesFault.TheVariants as files
use Rattle.onll_live.specs.declared.fault.NextFault.{NextFault}
use Rattle.onll_live.specs.declared.fault.NextFault.TheVariants as faults

-- the files of an era's logs give nothing
abbrev pub of_files : FilesFault → NextFault
of_files files.NoMemory = faults.NoMemory
of_files fault = faults.Files fault

-- the checkpoint was not kept in this area
abbrev pub of_keep : ℕ → KeepFault → NextFault
of_keep area (Outside Failed) = faults.NotKept area
of_keep area (Outside NoMemory) = faults.NoMemory
of_keep area FenceFailed = faults.FenceFailed area

-- why the next era wasn't begun where the file of this thread's log could not be emptied so
abbrev pub of_clear : ℕ → OutsideFault → NextFault
of_clear thread Failed = faults.NotCleared thread
of_clear thread NoMemory = faults.NoMemory
