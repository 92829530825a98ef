use Rattle.std.proofs.Common.{length, arith, ◌∙◌}
use Rattle.onll_recovery.proofs.PrintedReads.{few_here, few_at, thread_reads}
use Rattle.onll_recovery.proofs.ReplaySteps.{thread_more}
use Rattle.onll_recovery.proofs.crashed.put_calls.Goals as goal

pub loop-thread-preserved : goal.loop-thread-preserved
loop-thread-preserved g c =
    record {
      lines = thread_more g.O.Texted.wording c.loop-thread.out c.put_thread.new.out c.loop-thread.thread c.args.core.now.threads c.script.result.now c.returned.result.now c.current.result
          (omega arith) c.script.ensures c.returned.ensures c.current.ensures c.in_ok-put_thread.ensures.lines
          ∙ c.loop-thread.invariant.lines;
      begins = c.in_ok-put_thread.ensures.begins;
      reads = λ left. c.loop-thread.invariant.reads (thread_reads g.O.Texted.wording c.loop-thread.thread c.args.core.now.threads c.script.result.now c.returned.result.now c.current.result
          (omega arith) c.script.ensures c.returned.ensures c.current.ensures c.in_ok-put_thread.ensures.reads left);
    }

pub put_thread-requires-clause-few : goal.put_thread-requires-clause-few
put_thread-requires-clause-few g c κs within =
    let core = c.args.core.now in
    let legal = c.report_law.ensures (length core.threads) core c.reached.ensures in
    few_here c.loop-thread.thread core.threads c.script.result.now c.returned.result.now c.current.result (omega arith) c.script.ensures c.returned.ensures c.current.ensures
    (few_at g.O.Object.means core.initial _ core.trace 0 core.threads legal.outcomes)
