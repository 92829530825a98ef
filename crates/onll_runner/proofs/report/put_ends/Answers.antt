use Rattle.std.proofs.Common.{◌+◌, drop, arith, ◌∙◌}
use Rattle.std.proofs.lemmas.List.{drop_all}
use Rattle.onll_text.specs.Lines.{call_line}
use Rattle.onll_task.proofs.LineSteps.{begins_after, call_more, script_done}
use Rattle.onll_task.proofs.PrintedReads.{end_reads, ends_done}
use Rattle.onll_runner.proofs.ReportSteps.{here_at}
use Rattle.onll_runner.proofs.report.put_ends.Goals as goal

pub loop-index-preserved : goal.loop-index-preserved
loop-index-preserved g c =
    let w = g.O.Texted.wording in
    let i = c.loop-index.index in
    let ends = c.args.ends.now in
    let end = c.index-ends-index.result in
    let at = here_at ends i end (omega arith) c.index-ends-index.is in
    let line = c.in_ok-call_line.ensures.ok in
    record {
      lines = call_more w c.loop-index.out c.call_line.new.self c.args.thread i c.args.script.now ends c.index-script-index.result end (omega arith) c.index-script-index.is at line ∙ c.loop-index.invariant.lines;
      begins = begins_after c.loop-index.out c.call_line.new.self (call_line w c.args.thread (i + 1) c.index-script-index.result end) line;
      reads = λ left. c.loop-index.invariant.reads (end_reads w i ends end at c.in_ok-call_line.ensures.reads left);
    }

pub returns-clause-lines : goal.returns-clause-lines
returns-clause-lines g c =
    script_done g.O.Texted.wording c.loop-index.out c.args.thread c.loop-index.index c.args.script.now (drop c.loop-index.index c.args.ends.now) (drop_all c.loop-index.index c.args.script.now c.loop-index-test.false) ∙ c.loop-index.invariant.lines

pub returns-clause-reads : goal.returns-clause-reads
returns-clause-reads g c =
    record { few = omega (arith, c.requires.over); reads = c.loop-index.invariant.reads (ends_done g.O.Texted.wording c.loop-index.index c.args.ends.now (omega (arith, c.requires.over))) }
