use Rattle.std.proofs.Common.{◌≡◌, ◌-◌, ◌≤◌, None}
use Rattle.onll_merge.specs.Merge.{contents_in, clash_at, first_to}
use Rattle.onll_merge.specs.Passed.{ArePassedInAll}
use Rattle.onll_merge.proofs.logs.check_above.Given as goal

abbrev pub invariant-loop-at : goal.invariant-loop-at
invariant-loop-at l = record {
  bound : l.at ≤ l.top;
  none : first_to (clash_at (contents_in l.logs)) l.at ≡ None;
  passed : ArePassedInAll l.logs l.passed l.at;
}

abbrev pub decreases-loop-at : goal.decreases-loop-at
decreases-loop-at l = l.top - l.at
