use Rattle.std.proofs.Common.{arith}
use Rattle.onll_map.proofs.Maps.{empty_is_map}
use Rattle.onll_map.proofs.map.Map.make.Goals as goal

pub invariant_of-result : goal.invariant_of-result
invariant_of-result c = (rw c.in_ok-with_capacity.ensures.items (empty_is_map c.args.capacity c.requires.0 c.requires.1), omega (arith, c.in_ok-with_capacity.ensures.exact))
