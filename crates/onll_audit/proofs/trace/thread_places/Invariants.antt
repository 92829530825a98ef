use Rattle.std.proofs.Common.{◌≡◌, ◌++◌, drop, map}
use Rattle.onll_model.specs.Legal.{placed_rows}
use Rattle.onll_audit.specs.Verdict.{place_of, thread_places}
use Rattle.onll_audit.proofs.trace.thread_places.Given as goal

abbrev pub invariant-loop-node : goal.invariant-loop-node
invariant-loop-node l = record {
  place : l.place ≡ l.node-index;
  places : l.places.items ++ map place_of (placed_rows l.thread l.place (drop l.node-index l.nodes)) ≡ thread_places l.thread l.nodes;
}
