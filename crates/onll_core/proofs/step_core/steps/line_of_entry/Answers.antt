use Rattle.onll_core.proofs.EntryLines.{first_line, later_line}
use Rattle.onll_core.proofs.step_core.steps.line_of_entry.Goals as goal

pub returns-then-line-eq0 : goal.returns-then-line-eq0
returns-then-line-eq0 c = first_line c.args.head c.args.before (record { place = c.args.place; nodes = c.args.nodes.now }) c.args.line c.if-line-eq0.true c.entry_head.result.w c.entry_head.ensures

pub returns-else-line-eq0 : goal.returns-else-line-eq0
returns-else-line-eq0 c = later_line c.args.head c.args.before (record { place = c.args.place; nodes = c.args.nodes.now }) c.args.line c.if-line-eq0.false c.requires.line _ c.node_line.result.w c.node_line.ensures
