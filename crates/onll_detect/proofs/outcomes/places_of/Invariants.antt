use Rattle.std.proofs.Common.{◌≡◌, ◌++◌, drop}
use Rattle.onll_detect.specs.Outcomes.{places_of}
use Rattle.onll_detect.proofs.outcomes.places_of.Given as goal

abbrev pub invariant-loop-node : goal.invariant-loop-node
invariant-loop-node l = record {
  place : l.place ≡ l.node-index;
  places : l.places.items ++ places_of l.thread l.place (drop l.node-index l.nodes) ≡ places_of l.thread 0 l.nodes;
}
