use Rattle.std.proofs.Common.{◌≡◌, drop}
use Rattle.onll_model.specs.Trace.{state_after}
use Rattle.onll_audit.proofs.replica.apply_all.Given as goal

abbrev pub invariant-loop-node : goal.invariant-loop-node
invariant-loop-node g l = state_after g.O.Object.means l.object (drop l.node-index l.nodes) ≡ state_after g.O.Object.means l.initial.object l.nodes
