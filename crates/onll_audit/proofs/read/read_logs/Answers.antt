use Rattle.std.proofs.Common.{◌∙◌, arith}
use Rattle.onll_audit.specs.Values.{as_left}
use Rattle.onll_audit.proofs.Running.{logs_stop, logs_more}
use Rattle.onll_audit.proofs.read.read_logs.Goals as goal

pub returns-in-None-clause-logs : goal.returns-in-None-clause-logs
returns-in-None-clause-logs c =
    c.loop-thread.invariant.whole
    ∙ logs_stop c.loop-thread.thread c.args.threads (as_left c.loop-thread.left) c.loop-thread.left.number (omega arith) c.in-None.ensures.line

pub loop-thread-preserved : goal.loop-thread-preserved
loop-thread-preserved c = record {
  whole = c.loop-thread.invariant.whole
      ∙ logs_more c.loop-thread.thread c.args.threads (as_left c.loop-thread.left) (as_left c.in-Some.after) (omega arith) c.in-Some.ensures.line;
  within = omega (arith, c.in-Some.ensures.within);
}
