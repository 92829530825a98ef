use Rattle.std.proofs.Common.{◌≡◌, ◌++◌, ◌+◌, drop, take}
use Rattle.onll_model.specs.Recovered.{operations_front}
use Rattle.onll_detect.specs.Outcomes.{replies_of}
use Rattle.onll_detect.proofs.outcomes.replies_of.Given as goal

abbrev pub invariant-loop-node : goal.invariant-loop-node
invariant-loop-node g l = record {
  place : l.place ≡ l.node-index + 1;
  replies : l.replies.items ++ replies_of g.O.Object.means l.object (drop l.node-index l.nodes) ≡ replies_of g.O.Object.means l.initial.object l.nodes;
  front : take l.node-index l.nodes ++ operations_front g.O.Object.means (drop l.node-index l.nodes) ≡ operations_front g.O.Object.means l.nodes;
}
