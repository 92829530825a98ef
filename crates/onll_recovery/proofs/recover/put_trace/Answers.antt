use Rattle.std.proofs.Common.{ap, ◌∙◌}
use Rattle.onll_text.specs.Bytes.{begins_line}
use Rattle.onll_text.specs.Lines.{node_lines}
use Rattle.onll_text.proofs.Appending.{begins_line-lines}
use Rattle.onll_recovery.proofs.recover.put_trace.Goals as goal
use Rattle.onll_model.proofs.FoldLegal.{all_operations}

pub put_nodes-requires-clause-operations : goal.put_nodes-requires-clause-operations
put_nodes-requires-clause-operations g c κs within = all_operations g.O.Object.means c.args.nodes.now c.requires.rows

pub state_lines-requires-after_bounds : goal.state_lines-requires-after_bounds
state_lines-requires-after_bounds g c κs within =
    ap begins_line c.in_ok-put_nodes.ensures.lines
    ∙ begins_line-lines c.args.out.now (node_lines g.O.Object.means g.O.Texted.wording 0 c.args.nodes.now) c.requires.begins
