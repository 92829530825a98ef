-- Why an object isn't opened, by what a call below refused.
use Rattle.std.specs.Prelude.{ℕ, Option, Some, None}
use Rattle.onll_merge.specs.declared.fault.StateFault.{StateFault}
use Rattle.onll_merge.specs.declared.fault.StateFault.TheVariants as states
use Rattle.onll_outside.specs.declared.OutsideFault.{OutsideFault}
use Rattle.onll_outside.specs.declared.OutsideFault.TheVariants as outside
use Rattle.onll_open.specs.declared.fault.DeviceFault.{DeviceFault}
use Rattle.onll_open.specs.declared.fault.DeviceFault.TheVariants as devices
use Rattle.onll_open.specs.declared.fault.FileFault.{FileFault}
use Rattle.onll_open.specs.declared.fault.FileFault.TheVariants as file
use Rattle.onll_open.specs.declared.fault.FilesFault.{FilesFault}
use Rattle.onll_open.specs.declared.fault.FilesFault.TheVariants.{NotLog, NotOneRun, NotOperation, NotRead, NoMemory}
use Rattle.onll_open.specs.declared.fault.OpenFault.{OpenFault}
use Rattle.onll_open.specs.declared.fault.OpenFault.TheVariants as opens

-- a call for the file of this thread was refused so
abbrev pub fault_at : ℕ → OutsideFault → FileFault
fault_at thread outside.Failed = file.Failed thread
fault_at thread outside.NoMemory = file.NoMemory

abbrev pub of_state : StateFault → FilesFault
of_state (states.NotLog log) = NotLog log
of_state (states.NotMerged fault) = NotOneRun fault
of_state (states.NotOperation place) = NotOperation place
of_state states.NoMemory = NoMemory

-- the answer where recovery refuses, and the logs are misfits so: a file that is no log is named before all else
abbrev pub refused_as : Option FilesFault → StateFault → FilesFault
refused_as misfit (states.NotLog log) = NotLog log
refused_as misfit states.NoMemory = NoMemory
refused_as (Some misfit) fault = misfit
refused_as None fault = of_state fault

abbrev pub of_read : FileFault → FilesFault
of_read (file.Failed thread) = NotRead thread
of_read file.NoMemory = NoMemory

abbrev pub of_device : DeviceFault → OpenFault
of_device (devices.NotMade thread) = opens.NotMade thread
of_device (devices.NotReopened thread) = opens.NotReopened thread
of_device devices.NoMemory = opens.NoMemory

-- want of memory is one answer
abbrev pub of_files : FilesFault → OpenFault
of_files NoMemory = opens.NoMemory
of_files fault = opens.Files fault
