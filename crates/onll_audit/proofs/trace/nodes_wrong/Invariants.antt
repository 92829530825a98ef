use Rattle.std.proofs.Common.{◌≡◌, ◌+◌, [], take, drop, map}
use Rattle.onll_audit.specs.Verdict.{nodes_wrong}
use Rattle.onll_audit.proofs.Tallied.{IsTally}
use Rattle.onll_audit.proofs.trace.nodes_wrong.Given as goal

abbrev pub invariant-loop-below : goal.invariant-loop-below
invariant-loop-below l =
    let rows = map (λ x. x.items) l.rows in
    record {
      tally : IsTally rows l.counts.items l.nodes l.below;
      rest : nodes_wrong rows (l.number + l.below) (take l.below l.nodes) (drop l.below l.nodes) ≡ nodes_wrong rows l.number [] l.nodes;
    }
