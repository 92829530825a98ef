use Rattle.std.proofs.Common.{◌≡◌, ℕ, ◌<◌, ◌≤◌, drop}
use Rattle.onll_merge.specs.Merge.{contents_in, node_in_logs}
use Rattle.onll_merge.proofs.logs.next_of_logs.Given as goal

abbrev pub invariant-loop-log : goal.invariant-loop-log
invariant-loop-log l = record {
  above : l.place < l.next;
  bound : l.next ≤ l.end;
  none : (q : ℕ) → l.place < q → q < l.next → node_in_logs (contents_in (drop l.log l.logs)) q ≡ node_in_logs (contents_in l.logs) q;
}
