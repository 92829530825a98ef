use Rattle.std.proofs.Common.{false, get_or, refl, arith, ◌∙◌}
use Rattle.onll_merge.specs.declared.counts.LogCounts.{LogCounts}
use Rattle.onll_task.specs.RecoverySaid.{content_line}
use Rattle.onll_task.proofs.LineSteps.{begins_after}
use Rattle.onll_task.proofs.RecoverSteps.{log_lines_more}
use Rattle.onll_task.proofs.PrintedReads.{helds_more}
use Rattle.onll_task.proofs.nodes.put_logs.Goals as goal

pub loop-log-preserved : goal.loop-log-preserved
loop-log-preserved c =
    let none : LogCounts = record { head = false; entries = 0; lines = 0 } in
    let i = c.loop-log.log-index in
    let logs = c.args.logs.now in
    record {
      lines = log_lines_more c.loop-log.out c.put_log.new.out c.loop-log.thread i logs none (omega arith) c.in_ok-put_log.ensures.line ∙ c.loop-log.invariant.lines;
      begins = begins_after c.loop-log.out c.put_log.new.out (content_line c.loop-log.thread (get_or logs i none).head (get_or logs i none).entries (get_or logs i none).lines) c.in_ok-put_log.ensures.line;
      thread = omega arith;
      reads = λ left. c.loop-log.invariant.reads (helds_more i logs none (get_or logs i none) (omega arith) refl c.in_ok-put_log.ensures.reads.0 c.in_ok-put_log.ensures.reads.1 left);
    }
