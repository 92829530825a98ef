use Rattle.std.proofs.Common.{ap, ◌∙◌}
use Rattle.std.proofs.lemmas.Result.{on_ok_weaker}
use Rattle.onll_text.specs.Bytes.{begins_line}
use Rattle.onll_text.specs.Lines.{node_lines}
use Rattle.onll_text.proofs.Appending.{begins_line-lines}
use Rattle.onll_eras.proofs.restoring.put_found.Goals as goal
use Rattle.onll_model.proofs.FoldLegal.{all_operations}

pub put_nodes-requires-clause-operations : goal.put_nodes-requires-clause-operations
put_nodes-requires-clause-operations g c κs within = rw c.deref-2.ensures.value (all_operations g.O.Object.means c.args.recovery.now.nodes.items c.requires.rows)

pub returns-clause-begins : goal.returns-clause-begins
returns-clause-begins g c =
    on_ok_weaker c.put_nodes.result
    (λ d. ap begins_line d ∙ begins_line-lines c.put_count.new.out (node_lines g.O.Object.means g.O.Texted.wording 0 c.deref-2.result.now) c.in_ok-put_count.ensures.begins)
    c.put_nodes.ensures.lines
