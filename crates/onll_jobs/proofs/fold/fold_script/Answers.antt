use Rattle.std.proofs.Common.{◌∙◌, sym, ap, subst}
use Rattle.std.specs.List.{All, AllByRecursion}
use Rattle.std.specs.Option.{IsSome}
use Rattle.onll_model.specs.declared.node.Node.{Node}
use Rattle.onll_text.specs.Bytes.{begins_line}
use Rattle.onll_text.specs.Lines.{trace_line, node_lines}
use Rattle.onll_text.specs.Reports.{NodeReads, StateReads}
use Rattle.onll_text.proofs.Appending.{begins_line-line, begins_line-lines}
use Rattle.onll_jobs.proofs.FoldSteps.{fold_operations}
use Rattle.onll_jobs.proofs.fold.fold_script.Goals as goal

pub put_nodes-requires-clause-operations : goal.put_nodes-requires-clause-operations
put_nodes-requires-clause-operations g c κs within =
    let b = g.O.Object.means in
    subst (AllByRecursion (λ (n : Node). IsSome (b.op_at n.row))) (sym (c.deref.ensures.value ∙ c.in_ok-put_calls.ensures.trace)) (fold_operations b 0 c.args.script.now)

pub put_nodes-requires-clause-begins : goal.put_nodes-requires-clause-begins
put_nodes-requires-clause-begins g c κs within =
    ap begins_line c.in_ok-trace_line.ensures.ok ∙ begins_line-line c.put_calls.new.out (trace_line c.len.result)

pub state_lines-requires-after_bounds : goal.state_lines-requires-after_bounds
state_lines-requires-after_bounds g c κs within =
    ap begins_line c.in_ok-put_nodes.ensures.lines
    ∙ begins_line-lines c.trace_line.new.self (node_lines g.O.Object.means g.O.Texted.wording 0 c.deref.result.now)
    (ap begins_line c.in_ok-trace_line.ensures.ok ∙ begins_line-line c.put_calls.new.out (trace_line c.len.result))

pub returns-clause-reads : goal.returns-clause-reads
returns-clause-reads g c =
    let b = g.O.Object.means in
    let w = g.O.Texted.wording in
    record {
      ends = c.in_ok-put_calls.ensures.ends;
      nodes = subst (All (NodeReads b w)) (c.deref.ensures.value ∙ c.in_ok-put_calls.ensures.trace) c.in_ok-put_nodes.ensures.reads;
      state = subst (StateReads w) c.in_ok-put_calls.ensures.state c.in_ok-state_lines.ensures.reads;
    }
