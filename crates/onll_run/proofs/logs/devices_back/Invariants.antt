use Rattle.std.proofs.Common.{◌≡◌, ◌≤◌, ◌+◌, ◌∷◌, ◌++◌, length, map, vec_capacity}
use Rattle.std.specs.Prelude.{reverse}
use Rattle.onll_run.specs.Making.{device_of}
use Rattle.onll_run.proofs.logs.devices_back.Given as goal

abbrev pub invariant-loop-log : goal.invariant-loop-log
invariant-loop-log g l = record {
  devices : map device_of l.logs.items ++ reverse l.left.items ≡ map device_of l.fn.logs.items ++ l.fn.failed ∷ reverse l.fn.left.items;
  room : length l.logs.items + length l.left.items ≤ vec_capacity l.left;
}

abbrev pub decreases-loop-log : goal.decreases-loop-log
decreases-loop-log g l = length l.logs.items
