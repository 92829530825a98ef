use Rattle.std.proofs.Common.{◌≡◌, None}
use Rattle.onll_merge.specs.Merge.{contents_in, clash_at, gap_at, first_to, nodes_to}
use Rattle.onll_merge.specs.Passed.{ArePassedInAll}
use Rattle.onll_merge.proofs.logs.gather.Given as goal

abbrev pub invariant-loop-below : goal.invariant-loop-below
invariant-loop-below l = record {
  nodes : l.nodes.items ≡ nodes_to (contents_in l.logs) l.below;
  clash : first_to (clash_at (contents_in l.logs)) l.below ≡ None;
  gap : first_to (gap_at (contents_in l.logs)) l.below ≡ None;
  passed : ArePassedInAll l.logs l.passed l.below;
}
