use Rattle.std.proofs.Common.{◌≡◌, ◌≤◌, ◌+◌, ◌++◌, length, map, reverse, vec_capacity}
use Rattle.onll_run.specs.Making.{device_of}
use Rattle.onll_runner.proofs.over_logs.devices_of.Given as goal

-- the devices so far, and those of the logs that are left, the last of which comes first
abbrev pub invariant-loop-log : goal.invariant-loop-log
invariant-loop-log g l = record {
  all : l.devices.items ++ map device_of (reverse l.logs.items) ≡ map device_of l.fn.logs.items;
  room : length l.devices.items + length l.logs.items ≤ vec_capacity l.devices;
}

abbrev pub decreases-loop-log : goal.decreases-loop-log
decreases-loop-log g l = length l.logs.items
