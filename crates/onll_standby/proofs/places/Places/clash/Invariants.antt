use Rattle.std.proofs.Common.{◌≡◌, ◌+◌, drop}
use Rattle.onll_standby.specs.Held.{clash_among}
use Rattle.onll_standby.specs.Places.{held_at}
use Rattle.onll_standby.proofs.places.Places.clash.Given as goal

abbrev pub invariant-loop-node : goal.invariant-loop-node
invariant-loop-node l = record {
  at : l.place ≡ l.below + l.node-index;
  rest : clash_among (held_at l.self) (l.place + 1) (drop l.node-index l.nodes) ≡ clash_among (held_at l.self) (l.below + 1) l.nodes;
}
