use Rattle.std.proofs.Common.{◌≡◌, ◌+◌, ◌++◌, take, drop}
use Rattle.onll_model.specs.Trace.{state_after}
use Rattle.onll_model.specs.Recovered.{operations_front}
use Rattle.onll_model.proofs.recovered.fold_nodes.Given as goal

-- what is left to apply gives the state after all
abbrev pub invariant-loop-node : goal.invariant-loop-node
invariant-loop-node g l = let means = g.O.Object.means in let rest = drop l.node-index l.nodes in
    record {
      after : state_after means l.object (operations_front means rest) ≡ state_after means l.fn.object (operations_front means l.nodes);
      done : take l.node-index l.nodes ++ operations_front means rest ≡ operations_front means l.nodes;
      place : l.place ≡ l.node-index + 1;
      capacity : means.capacity l.object ≡ means.capacity l.fn.object;
    }
