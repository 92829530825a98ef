use Rattle.std.proofs.Common.{◌≡◌, ◌+◌, drop}
use Rattle.std.specs.Prelude.{count_by}
use Rattle.onll_model.specs.Trace.{is_of_thread}
use Rattle.onll_start.proofs.found.count_nodes.Given as goal

abbrev pub invariant-loop-node : goal.invariant-loop-node
invariant-loop-node l = l.count + count_by (is_of_thread l.thread) (drop l.node-index l.nodes) ≡ count_by (is_of_thread l.thread) l.nodes
