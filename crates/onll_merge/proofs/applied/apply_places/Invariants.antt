use Rattle.std.proofs.Common.{◌≡◌, ◌+◌}
use Rattle.onll_model.specs.Trace.{state_after}
use Rattle.onll_merge.specs.Merge.{nodes_to}
use Rattle.onll_merge.specs.Standing.{contents_under, StandBelow}
use Rattle.onll_merge.proofs.applied.apply_places.Given as goal

abbrev pub invariant-loop-below : goal.invariant-loop-below
invariant-loop-below g l =
    let logs = contents_under l.fn.readers in
    record {
      object : l.object ≡ state_after g.O.Object.means l.fn.object (nodes_to logs l.below);
      same : contents_under l.readers ≡ logs;
      below : StandBelow (l.below + 1) l.readers;
    }
