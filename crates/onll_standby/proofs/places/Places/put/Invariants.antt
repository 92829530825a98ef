use Rattle.std.proofs.Common.{◌≡◌, ◌+◌, drop, length}
use Rattle.onll_standby.specs.Places.{with_nodes, AreSlots}
use Rattle.onll_standby.proofs.places.Places.put.Given as goal

abbrev pub invariant-loop-node : goal.invariant-loop-node
invariant-loop-node l = record {
  are : AreSlots l.self-inside.slots.items;
  at : l.at ≡ l.below + l.node-index;
  long : length l.self-inside.slots.items ≡ length l.fn.self;
  rest : with_nodes l.self-inside.slots.items l.at (drop l.node-index l.nodes) ≡ with_nodes l.fn.self l.below l.nodes;
}
