use Rattle.std.proofs.Common.{◌≡◌, length, take}
use Rattle.std.specs.List.{All}
use Rattle.onll_model.specs.declared.node.Node.{Node}
use Rattle.onll_log.specs.Encoding.{node_lines}
use Rattle.onll_log.specs.Log.{PutsLines}
use Rattle.onll_log.proofs.log.put_nodes.Given as goal

abbrev pub invariant-loop-i : goal.invariant-loop-i
invariant-loop-i g l = PutsLines (g.P.Pmem.means l.initial.device) (g.P.Pmem.means l.device) l.from (node_lines (take l.i l.nodes)) × All (λ (n : Node). length n.row.w ≡ 7) (take l.i l.nodes)
