use Rattle.std.proofs.Common.{◌≡◌, ◌≤◌, ◌+◌, ◌++◌, map, length, vec_capacity}
use Rattle.std.specs.Prelude.{reverse}
use Rattle.onll_shared.specs.Passes.{spot_of, log_of}
use Rattle.onll_shared.proofs.close.spots_and_logs.Given as goal

abbrev pub invariant-loop-pass : goal.invariant-loop-pass
invariant-loop-pass g l = record {
  spots : map spot_of l.passes.items ++ reverse l.spots.items ≡ map spot_of l.initial.passes.items;
  logs : map log_of l.passes.items ++ reverse l.logs.items ≡ map log_of l.initial.passes.items;
  spot_room : length l.passes.items + length l.spots.items ≤ vec_capacity l.spots;
  log_room : length l.passes.items + length l.logs.items ≤ vec_capacity l.logs;
}

abbrev pub decreases-loop-pass : goal.decreases-loop-pass
decreases-loop-pass g l = length l.passes.items
