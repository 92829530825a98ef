use Rattle.std.proofs.Common.{rules}
use Rattle.onll_log.proofs.Decoding.{entry_words}
use Rattle.onll_log.proofs.entry.entry_head.Goals as goal

pub returns : goal.returns
returns c = entry_words c.args.head c.args.sequence c.args.place c.args.nodes.now c.guard.result _ c.requires.sequence (search rules) c.node_lines-lines.ensures c.guard.ensures
