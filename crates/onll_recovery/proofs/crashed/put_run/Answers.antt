use Rattle.std.proofs.Common.{length}
use Rattle.onll_text.specs.Lines.{trace_line}
use Rattle.onll_task.proofs.LineSteps.{begins_after}
use Rattle.onll_recovery.proofs.crashed.put_run.Goals as goal

pub put_flagged-requires-clause-begins : goal.put_flagged-requires-clause-begins
put_flagged-requires-clause-begins g c κs within =
    begins_after c.put_calls.new.out c.trace_line.new.self (trace_line (length c.trace-trace.result.now)) c.in_ok-trace_line.ensures.ok
