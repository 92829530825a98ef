use Rattle.std.proofs.Common.{map, take}
use Rattle.onll_open.specs.Keeping.{AreWhole}
use Rattle.onll_open.proofs.keeping.whole_devices.Given as goal

-- the lines of the devices so far are whole
abbrev pub invariant-loop-device : goal.invariant-loop-device
invariant-loop-device g l = AreWhole (map g.P.Pmem.means (take l.device-index l.devices))
