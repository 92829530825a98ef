use Rattle.std.proofs.Common.{◌+◌, Bool, false, [], Some, drop, get_or, arith, sym, ◌∙◌, subst}
use Rattle.std.proofs.lemmas.List.{drop_more}
use Rattle.std.proofs.lemmas.List.Elements.{All-cons}
use Rattle.std.specs.List.{All, AllByRecursion}
use Rattle.std.specs.Option.{IsSome}
use Rattle.onll_model.specs.declared.node.Node.{Node}
use Rattle.onll_text.specs.Lines.{node_line}
use Rattle.onll_text.specs.Reports.{NodeReads}
use Rattle.onll_task.proofs.LineSteps.{begins_after}
use Rattle.onll_recovery.proofs.ReplaySteps.{flagged_more}
use Rattle.onll_recovery.proofs.crashed.put_flagged.Goals as goal

pub loop-index-preserved : goal.loop-index-preserved
loop-index-preserved g c =
    let b = g.O.Object.means in
    let w = g.O.Texted.wording in
    let i = c.loop-index.index in
    let nodes = c.args.trace.now in
    let flags = c.args.flags.now in
    let d : Node = record { thread = 0; number = 0; row = record { w = [] } } in
    let f : Bool = false in
    let line = c.in_ok-node_line.ensures.ok in
    let rest = subst (AllByRecursion (λ (n : Node). IsSome (b.op_at n.row))) (drop_more nodes i d (omega arith)) c.loop-index.invariant.operations in
    record {
      lines = flagged_more b w c.loop-index.out c.node_line.new.self i nodes flags d f (omega arith) (omega arith) line ∙ c.loop-index.invariant.lines;
      operations = rest.1;
      reads = λ left. c.loop-index.invariant.reads (subst (All (NodeReads b w)) (sym (drop_more nodes i d (omega arith))) (All-cons (NodeReads b w) (get_or nodes i d) (drop (i + 1) nodes) c.in_ok-node_line.ensures.reads left));
      begins = begins_after c.loop-index.out c.node_line.new.self (node_line b w (i + 1) (get_or nodes i d) (Some (get_or flags i f))) line;
    }
