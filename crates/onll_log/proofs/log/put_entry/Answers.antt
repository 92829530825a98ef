use Rattle.std.proofs.Common.{◌+◌, ◌∷◌, [], refl, arith}
use Rattle.onll_log.specs.Encoding.{node_lines}
use Rattle.onll_log.proofs.Writing.{Puts-then}
use Rattle.onll_log.proofs.log.put_entry.Goals as goal

pub returns-clause-lines : goal.returns-clause-lines
returns-clause-lines g c = let within = c.requires.within in
    Puts-then (g.P.Pmem.means c.args.device.now) (g.P.Pmem.means c.put.new.device) (g.P.Pmem.means c.put_nodes.new.device) c.args.from (c.args.from + 1)
    (c.args.first.w ∷ []) (node_lines c.args.nodes.now) (omega arith) refl c.put.ensures c.put_nodes.ensures.lines
