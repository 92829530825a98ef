-- The device in memory whose fences never fail.

use Rattle.std.specs.Prelude.{◌≤◌}
use Rattle.std.proofs.Common.{arith}
use Rattle.onll_pmem.specs.Device.{DeviceState}
use Rattle.onll_pmem.specs.Pmem.{DeviceView, view_of}

-- what it means to callers of any device: it tells all, and no fence of it failed
abbrev pub faultless_view : DeviceState → DeviceView
faultless_view device = view_of device 0

pub few_faults : (device : DeviceState) → (faultless_view device).faults ≤ (faultless_view device).fences
few_faults device = omega arith
