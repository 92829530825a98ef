use Rattle.std.proofs.Common.{◌≡◌, drop, map, true}
use Rattle.std.specs.List.{All}
use Rattle.onll_text.specs.Bytes.{begins_line, with_lines}
use Rattle.onll_task.specs.RecoverySaid.{HeldReads, held_of, log_lines}
use Rattle.onll_task.proofs.nodes.put_logs.Given as goal

-- the logs that are left make the lines that all make, and if they read back, all do
abbrev pub invariant-loop-log : goal.invariant-loop-log
invariant-loop-log l = record {
  lines : with_lines l.out (log_lines l.thread (drop l.log-index l.logs)) ≡ with_lines l.fn.out (log_lines 0 l.logs);
  begins : begins_line l.out ≡ true;
  thread : l.thread ≡ l.log-index;
  reads : All HeldReads (map held_of (drop l.log-index l.logs)) → All HeldReads (map held_of l.logs);
}
