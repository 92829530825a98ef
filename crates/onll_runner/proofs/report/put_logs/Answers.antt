use Rattle.std.proofs.Common.{false, Some, get_or, sym, subst, arith, ◌∙◌}
use Rattle.std.specs.List.{All}
use Rattle.std.proofs.lemmas.List.{drop_all}
use Rattle.std.proofs.lemmas.List.Elements.{All-nil}
use Rattle.onll_merge.specs.declared.counts.LogCounts.{LogCounts}
use Rattle.onll_text.specs.Lines.{log_line}
use Rattle.onll_text.specs.Reports.{LogReads}
use Rattle.onll_task.proofs.LineSteps.{begins_after}
use Rattle.onll_runner.proofs.ReportSteps.{told, counts_at, log_more, log_reads}
use Rattle.onll_runner.proofs.report.put_logs.Goals as goal

pub loop-thread-preserved : goal.loop-thread-preserved
loop-thread-preserved g c =
    let m = g.P.Pmem.means in
    let t = c.loop-thread.thread in
    let logs = c.args.logs.now in
    let log = c.index-logs-thread.result in
    let none : LogCounts = record { head = false; entries = 0; lines = 0 } in
    let held = get_or c.args.counts.now t none in
    let is = counts_at m logs t none log c.args.counts.now c.requires.counts (omega arith) c.index-logs-thread.is in
    let line = c.in_ok-log_line.ensures.ok in
    record {
      lines = log_more m c.loop-thread.out c.log_line.new.self t logs log held c.fences.result (omega arith) c.index-logs-thread.is is c.fences.ensures line ∙ c.loop-thread.invariant.lines;
      begins = begins_after c.loop-thread.out c.log_line.new.self (log_line t held.entries held.lines (Some c.fences.result)) line;
      reads = λ left. c.loop-thread.invariant.reads (log_reads m t logs log held c.fences.result (omega arith) c.index-logs-thread.is is c.fences.ensures c.in_ok-log_line.ensures.reads.0 c.in_ok-log_line.ensures.reads.1 (omega arith) left);
    }

pub returns-clause-reads : goal.returns-clause-reads
returns-clause-reads g c =
    let m = g.P.Pmem.means in
    c.loop-thread.invariant.reads (subst (λ logs. All LogReads (told m logs)) (sym (drop_all c.loop-thread.thread c.args.logs.now (omega arith))) (All-nil LogReads))
