use Rattle.std.proofs.Common.{◌≤◌, length}
use Rattle.onll_outside.proofs.disk.without_zeros.Given as goal

abbrev pub invariant-loop-count : goal.invariant-loop-count
invariant-loop-count l = l.count ≤ length l.lines

abbrev pub decreases-loop-count : goal.decreases-loop-count
decreases-loop-count l = l.count
