use Rattle.std.proofs.Common.{◌≡◌, ◌≤◌, ◌++◌, drop, length, vec_capacity}
use Rattle.onll_run.specs.Ran.{available}
use Rattle.onll_run.proofs.run.whole_trace.Given as goal

abbrev pub invariant-loop-node : goal.invariant-loop-node
invariant-loop-node l = record {
  all : l.trace.items ++ available (drop l.node-index l.base) ≡ available l.base;
  count : length l.trace.items ≡ l.node-index;
  room : length l.base ≤ vec_capacity l.trace;
}
