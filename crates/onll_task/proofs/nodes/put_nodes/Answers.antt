use Rattle.std.proofs.Common.{◌+◌, [], None, drop, get_or, arith, sym, ◌∙◌, subst}
use Rattle.std.proofs.lemmas.List.{drop_more}
use Rattle.std.proofs.lemmas.List.Elements.{All-cons}
use Rattle.std.specs.List.{All, AllByRecursion}
use Rattle.std.specs.Option.{IsSome}
use Rattle.onll_model.specs.declared.node.Node.{Node}
use Rattle.onll_text.specs.Lines.{node_line}
use Rattle.onll_text.specs.Reports.{NodeReads}
use Rattle.onll_task.proofs.LineSteps.{begins_after, node_lines_more}
use Rattle.onll_task.proofs.nodes.put_nodes.Goals as goal

pub loop-node-preserved : goal.loop-node-preserved
loop-node-preserved g c =
    let b = g.O.Object.means in
    let w = g.O.Texted.wording in
    let i = c.loop-node.node-index in
    let nodes = c.args.trace.now in
    let d : Node = record { thread = 0; number = 0; row = record { w = [] } } in
    let line = c.in_ok-node_line.ensures.ok in
    let rest = subst (AllByRecursion (λ (n : Node). IsSome (b.op_at n.row))) (drop_more nodes i d (omega arith)) c.loop-node.invariant.operations in
    record {
      lines = node_lines_more b w c.loop-node.out c.node_line.new.self c.loop-node.place i nodes d (omega arith) line ∙ c.loop-node.invariant.lines;
      operations = rest.1;
      reads = λ left. c.loop-node.invariant.reads (subst (All (NodeReads b w)) (sym (drop_more nodes i d (omega arith))) (All-cons (NodeReads b w) (get_or nodes i d) (drop (i + 1) nodes) c.in_ok-node_line.ensures.reads left));
      begins = begins_after c.loop-node.out c.node_line.new.self (node_line b w (c.loop-node.place + 1) (get_or nodes i d) None) line;
      place = omega arith;
    }
