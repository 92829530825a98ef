use Rattle.std.proofs.Common.{◌≡◌, drop, map}
use Rattle.onll_recovery.specs.DetectJob.{stranger}
use Rattle.onll_recovery.proofs.detect.first_stranger.Given as goal

abbrev pub invariant-loop-node : goal.invariant-loop-node
invariant-loop-node l = record {
  place : l.place ≡ l.node-index;
  found : stranger (map (λ own. own.items) l.rows) l.place (drop l.node-index l.nodes) ≡ stranger (map (λ own. own.items) l.rows) 0 l.nodes;
}
