use Rattle.std.proofs.Common.{◌≡◌, ◌≤◌, ◌+◌, length}
use Rattle.onll_audit.specs.Form.{fault_run}
use Rattle.onll_audit.specs.Values.{as_left}
use Rattle.onll_audit.proofs.read.read_faults.Given as goal

abbrev pub invariant-loop-next : goal.invariant-loop-next
invariant-loop-next l = record {
  whole : fault_run l.threads l.least l.left.number (as_left l.left).parts ≡ fault_run l.threads 0 l.lines.number (as_left l.lines).parts;
  within : l.left.number + length l.left.rest.now ≤ l.lines.number + length l.lines.rest.now;
}

abbrev pub decreases-loop-next : goal.decreases-loop-next
decreases-loop-next l = length l.left.rest.now
