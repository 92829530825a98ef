use Rattle.std.proofs.Common.{◌≡◌, drop}
use Rattle.onll_merge.specs.Merge.{contents_in, clash_from, clash_at, node_in_logs}
use Rattle.onll_merge.specs.Passed.{ArePassedInAll}
use Rattle.onll_merge.proofs.logs.node_of_place.Given as goal

abbrev pub invariant-loop-log : goal.invariant-loop-log
invariant-loop-log l = record {
  clash : clash_from l.log (contents_in (drop l.log l.logs)) l.place ≡ clash_at (contents_in l.logs) l.place;
  node : node_in_logs (contents_in (drop l.log l.logs)) l.place ≡ node_in_logs (contents_in l.logs) l.place;
  passed : ArePassedInAll l.logs l.passed l.place;
}
