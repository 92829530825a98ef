use Rattle.std.proofs.Common.{◌≡◌, ◌+◌, None}
use Rattle.onll_merge.specs.Merge.{clash_at, gap_at, first_to, nodes_to}
use Rattle.onll_merge.specs.Standing.{contents_under, StandBelow, gap_fault}
use Rattle.onll_merge.proofs.second_pass.gather.Given as goal

abbrev pub invariant-loop-below : goal.invariant-loop-below
invariant-loop-below l =
    let logs = contents_under l.fn.readers in
    record {
      nodes : l.nodes.items ≡ nodes_to logs l.below;
      clash : first_to (clash_at logs) l.below ≡ None;
      gap : gap_fault l.gap ≡ first_to (gap_at logs) l.below;
      same : contents_under l.readers ≡ logs;
      below : StandBelow (l.below + 1) l.readers;
    }
