use Rattle.std.proofs.Common.{arith, ◌∙◌}
use Rattle.onll_runner.proofs.ReportSteps.{fault_more}
use Rattle.onll_runner.proofs.report.put_faults.Goals as goal

pub loop-thread-preserved : goal.loop-thread-preserved
loop-thread-preserved g c =
    let done = c.index-threads-thread.result in
    record {
      lines = fault_more c.loop-thread.out c.put_fault.new.out c.loop-thread.thread c.args.threads.now done c.deref.result.now c.failed_place.result (omega arith) c.index-threads-thread.is c.deref.ensures.value c.failed_place.ensures c.in_ok-put_fault.ensures.lines
          ∙ c.loop-thread.invariant.lines;
      begins = c.in_ok-put_fault.ensures.begins;
    }
