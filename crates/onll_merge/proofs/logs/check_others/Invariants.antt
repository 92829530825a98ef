use Rattle.std.proofs.Common.{◌≡◌, ◌+◌, drop}
use Rattle.onll_merge.specs.Merge.{contents_in, differs}
use Rattle.onll_merge.specs.Passed.{ArePassedInAll}
use Rattle.onll_merge.proofs.logs.check_others.Given as goal

abbrev pub invariant-loop-other : goal.invariant-loop-other
invariant-loop-other l = record {
  others : differs l.place l.log l.other l.node (contents_in (drop l.other l.logs)) ≡ differs l.place l.log (l.log + 1) l.node (contents_in (drop (l.log + 1) l.logs));
  passed : ArePassedInAll l.logs l.passed l.place;
}
