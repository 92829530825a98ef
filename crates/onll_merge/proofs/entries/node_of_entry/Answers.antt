use Rattle.std.proofs.Common.{◌-◌, length, get_or, sym, ap, ◌∙◌, arith, Some, []}
use Rattle.onll_model.specs.declared.node.Node.{Node}
use Rattle.onll_merge.proofs.Places.{node_among-at, node_among-below}
use Rattle.onll_merge.proofs.entries.node_of_entry.Goals as goal

pub returns-then-above-nodes : goal.returns-then-above-nodes
returns-then-above-nodes c = let e = c.args.entry.now in let same = c.as_slice-nodes.ensures in let n = ap length same in let r = c.requires in let t = c.if-above-nodes.true in
    let k = length c.as_slice-nodes.result.now - 1 - (e.place - c.args.place) in
    let d : Node = record { thread = 0; number = 0; row = record { w = [] } } in
    sym (node_among-at e.place e.nodes c.args.place k d (omega arith) (omega arith) ∙ ap (λ xs. Some (get_or xs k d)) (sym same))

pub returns-else-above-nodes : goal.returns-else-above-nodes
returns-else-above-nodes c = let e = c.args.entry.now in let n = ap length c.as_slice-nodes.ensures in let r = c.requires in let f = c.if-above-nodes.false in
    sym (node_among-below e.place e.nodes c.args.place (omega arith))
