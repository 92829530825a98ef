use Rattle.std.proofs.Common.{rules, ◌<◌, ◌∙◌, length, arith}
use Rattle.std.proofs.lemmas.List.{length-set}
use Rattle.onll_log.proofs.Decoding.{words_more}
use Rattle.onll_log.proofs.entry.node_lines.Goals as goal

pub loop-i-preserved : goal.loop-i-preserved
loop-i-preserved c = let sixteen = c.loop-i.invariant.0 in let few = c.requires.few in let here : c.loop-i.i < length c.args.nodes.now = search rules in
    (length-set c.loop-i.lines c.loop-i.i c.node_line.result ∙ sixteen, words_more c.loop-i.lines c.args.nodes.now c.loop-i.i c.node_line.result _ (omega arith) here c.loop-i.invariant.1 c.node_line.ensures)
