use Rattle.std.proofs.Common.{map}
use Rattle.onll_detect.proofs.Tables.{table_within}
use Rattle.onll_detect.proofs.outcomes.Outcomes.of.Goals as goal

pub invariant_of-result : goal.invariant_of-result
invariant_of-result g c =
    table_within g.O.Object.means c.args.object c.args.nodes.now c.in-Ok.replies.items (map (λ places. places.items) c.in_ok-places.places.items)
    c.in-Ok.ensures.1 c.in-Ok.ensures.0 c.in_ok-places.ensures
