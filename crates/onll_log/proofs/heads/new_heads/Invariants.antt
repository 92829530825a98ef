use Rattle.std.proofs.Common.{◌≤◌, vec_capacity}
use Rattle.onll_log.proofs.NewHeads.{HeadsSo}
use Rattle.onll_log.proofs.heads.new_heads.Given as goal

-- the heads of the threads before were made
abbrev pub invariant-loop-thread : goal.invariant-loop-thread
invariant-loop-thread l = record {
  so : HeadsSo l.object l.init l.threads l.thread l.heads.items;
  room : l.threads ≤ vec_capacity l.heads;
}
