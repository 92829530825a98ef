use Rattle.std.proofs.Common.{length, arith, ap, sym, ◌∙◌}
use Rattle.onll_runner.proofs.ReportSteps.{over_at, thread_more, thread_reads}
use Rattle.onll_runner.proofs.report.put_threads.Goals as goal

pub loop-thread-preserved : goal.loop-thread-preserved
loop-thread-preserved g c =
    let w = g.O.Texted.wording in
    let t = c.loop-thread.thread in
    let done = c.index-threads-thread.result in
    let script = c.deref.ensures.value in
    let ends = c.deref-in-loop-thread.ensures.value in
    record {
      lines = thread_more w c.loop-thread.out c.put_ends.new.out t c.args.threads.now done c.deref.result.now c.deref-in-loop-thread.result.now (omega arith) c.index-threads-thread.is script ends c.in_ok-put_ends.ensures.lines
          ∙ c.loop-thread.invariant.lines;
      begins = c.in_ok-put_ends.ensures.begins;
      reads = λ left. c.loop-thread.invariant.reads (thread_reads w t c.args.threads.now done c.deref.result.now c.deref-in-loop-thread.result.now (omega arith) c.index-threads-thread.is script ends c.in_ok-put_ends.ensures.reads left);
    }

pub put_ends-requires-clause-over : goal.put_ends-requires-clause-over
put_ends-requires-clause-over g c κs within =
    ap length c.deref-in-loop-thread.ensures.value ∙ over_at c.args.threads.now c.loop-thread.thread c.index-threads-thread.result c.requires.over (omega arith) c.index-threads-thread.is ∙ sym (ap length c.deref.ensures.value)
