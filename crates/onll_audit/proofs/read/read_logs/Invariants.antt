use Rattle.std.proofs.Common.{◌≡◌, ◌≤◌, ◌+◌, ◌-◌, length}
use Rattle.onll_audit.specs.Form.{log_run}
use Rattle.onll_audit.specs.Values.{as_left}
use Rattle.onll_audit.proofs.read.read_logs.Given as goal

abbrev pub invariant-loop-thread : goal.invariant-loop-thread
invariant-loop-thread l = record {
  whole : log_run 0 l.threads (as_left l.lines) ≡ log_run l.thread (l.threads - l.thread) (as_left l.left);
  within : l.left.number + length l.left.rest.now ≤ l.lines.number + length l.lines.rest.now;
}
