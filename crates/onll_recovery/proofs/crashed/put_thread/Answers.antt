use Rattle.std.proofs.Common.{◌+◌, ◌++◌, drop, map, arith, sym, ◌∙◌}
use Rattle.std.proofs.lemmas.List.{drop_all}
use Rattle.onll_core.specs.Outcomes.{returned_end, current_ends}
use Rattle.onll_text.specs.Lines.{call_line}
use Rattle.onll_task.proofs.LineSteps.{begins_after, call_more, script_done}
use Rattle.onll_recovery.proofs.ReplaySteps.{calls_done}
use Rattle.onll_task.proofs.PrintedReads.{end_reads, no_end, ends_done}
use Rattle.onll_recovery.proofs.crashed.put_thread.Goals as goal

pub returns-in_default-clause-lines : goal.returns-in_default-clause-lines
returns-in_default-clause-lines g c =
    let ends = map returned_end c.args.returned.now ++ current_ends c.args.current in
    calls_done g.O.Texted.wording c.loop-index.out c.args.thread c.loop-index.index c.args.script.now ends (sym c.end_at.ensures ∙ c.in_default.is) ∙ c.loop-index.invariant.lines

pub loop-index-preserved : goal.loop-index-preserved
loop-index-preserved g c =
    let w = g.O.Texted.wording in
    let i = c.loop-index.index in
    let ends = map returned_end c.args.returned.now ++ current_ends c.args.current in
    let line = c.in_ok-call_line.ensures.ok in
    record {
      lines = call_more w c.loop-index.out c.call_line.new.self c.args.thread i c.args.script.now ends c.index-script-index.result c.in-Some.end (omega arith) c.index-script-index.is (sym c.end_at.ensures ∙ c.in-Some.is) line ∙ c.loop-index.invariant.lines;
      begins = begins_after c.loop-index.out c.call_line.new.self (call_line w c.args.thread (i + 1) c.index-script-index.result c.in-Some.end) line;
      reads = λ left. c.loop-index.invariant.reads (end_reads w i ends c.in-Some.end (sym c.end_at.ensures ∙ c.in-Some.is) c.in_ok-call_line.ensures.reads left);
    }

pub returns-clause-lines : goal.returns-clause-lines
returns-clause-lines g c =
    let ends = map returned_end c.args.returned.now ++ current_ends c.args.current in
    script_done g.O.Texted.wording c.loop-index.out c.args.thread c.loop-index.index c.args.script.now (drop c.loop-index.index ends) (drop_all c.loop-index.index c.args.script.now c.loop-index-test.false) ∙ c.loop-index.invariant.lines

pub returns-in_default-clause-reads : goal.returns-in_default-clause-reads
returns-in_default-clause-reads g c =
    let ends = map returned_end c.args.returned.now ++ current_ends c.args.current in
    record { few = c.requires.few; reads = c.loop-index.invariant.reads (no_end g.O.Texted.wording c.loop-index.index ends (sym c.end_at.ensures ∙ c.in_default.is)) }

pub returns-clause-reads : goal.returns-clause-reads
returns-clause-reads g c =
    let ends = map returned_end c.args.returned.now ++ current_ends c.args.current in
    record { few = c.requires.few; reads = c.loop-index.invariant.reads (ends_done g.O.Texted.wording c.loop-index.index ends (omega arith)) }
