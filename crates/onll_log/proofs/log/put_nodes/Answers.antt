use Rattle.std.proofs.Common.{rules, ◌≡◌, ◌<◌, [], length, get_or, ap, arith}
use Rattle.std.proofs.lemmas.List.Elements.{All-more}
use Rattle.onll_model.specs.declared.node.Node.{Node}
use Rattle.onll_log.proofs.Writing.{Puts-node}
use Rattle.onll_log.proofs.log.put_nodes.Goals as goal

pub loop-i-preserved : goal.loop-i-preserved
loop-i-preserved g c = let here : c.loop-i.i < length c.args.nodes.now = search rules in
    let none : Node = record { thread = 0; number = 0; row = record { w = [] } } in
    let row : length (get_or c.args.nodes.now c.loop-i.i none).row.w ≡ 7 = let eight : length c.node_line.result.w ≡ 8 = search rules in let words = ap length c.node_line.ensures in omega arith in (
      Puts-node (g.P.Pmem.means c.args.device.now) (g.P.Pmem.means c.loop-i.device) (g.P.Pmem.means c.put.new.device) c.args.from c.loop-i.i c.args.nodes.now none c.node_line.result.w
          c.requires.within here c.node_line.ensures c.loop-i.invariant.0 c.put.ensures,
      All-more (λ (n : Node). length n.row.w ≡ 7) c.args.nodes.now c.loop-i.i none here c.loop-i.invariant.1 row,
    )
