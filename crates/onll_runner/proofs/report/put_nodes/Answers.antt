use Rattle.std.proofs.Common.{◌+◌, false, [], Some, get_or, arith, ◌∙◌}
use Rattle.onll_trace.specs.declared.trace.Ended.{Ended}
use Rattle.onll_text.specs.Lines.{node_line}
use Rattle.onll_task.proofs.LineSteps.{begins_after}
use Rattle.onll_runner.proofs.ReportSteps.{node_more, node_reads, operations_more}
use Rattle.onll_runner.proofs.report.put_nodes.Goals as goal

pub loop-index-preserved : goal.loop-index-preserved
loop-index-preserved g c =
    let b = g.O.Object.means in
    let w = g.O.Texted.wording in
    let i = c.loop-index.index in
    let trace = c.args.trace.now in
    let none : Ended = record { node = record { thread = 0; number = 0; row = record { w = [] } }; flag = false } in
    let end : Ended = get_or trace i none in
    let line = c.in_ok-node_line.ensures.ok in
    record {
      lines = node_more b w c.loop-index.out c.node_line.new.self i trace none (omega arith) line ∙ c.loop-index.invariant.lines;
      operations = (operations_more b w i trace none (omega arith) c.loop-index.invariant.operations).1;
      reads = λ left. c.loop-index.invariant.reads (node_reads b w i trace none (omega arith) c.in_ok-node_line.ensures.reads left);
      begins = begins_after c.loop-index.out c.node_line.new.self (node_line b w (i + 1) end.node (Some end.flag)) line;
    }
