use Rattle.std.proofs.Common.{◌≡◌, ◌-◌, ◌≤◌, length, replicate}
use Rattle.onll_pmem.specs.Device.{new_device}
use Rattle.onll_workload.specs.Workload.{device_lines}
use Rattle.onll_workload.proofs.made.devices_for.Given as goal

-- all devices so far are new
abbrev pub invariant-loop-alloc : goal.invariant-loop-alloc
invariant-loop-alloc l = record {
  new : l.devices.items ≡ replicate (length l.devices.items) (new_device (device_lines l.workload));
  few : length l.devices.items ≤ l.workload.threads;
}

abbrev pub decreases-loop-alloc : goal.decreases-loop-alloc
decreases-loop-alloc l = l.workload.threads - length l.devices.items
