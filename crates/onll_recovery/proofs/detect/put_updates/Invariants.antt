use Rattle.std.proofs.Common.{◌≡◌, ◌≤◌, drop, true}
use Rattle.onll_text.specs.Bytes.{begins_line, with_lines}
use Rattle.onll_recovery.specs.DetectJob.{update_lines}
use Rattle.onll_recovery.proofs.detect.put_updates.Given as goal

abbrev pub invariant-loop-calls : goal.invariant-loop-calls
invariant-loop-calls g l =
    let w = g.O.Texted.wording in
    record {
      lines : with_lines l.out (update_lines w l.outcomes l.thread l.calls l.updates (drop l.calls l.script))
          ≡ with_lines l.fn.out (update_lines w l.outcomes l.thread 0 0 l.script);
      begins : begins_line l.out ≡ true;
      few : l.updates ≤ l.calls;
    }
