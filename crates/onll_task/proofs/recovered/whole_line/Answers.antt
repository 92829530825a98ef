use Rattle.std.proofs.Common.{rules}
use Rattle.onll_outside.proofs.WholeLines.{words_all}
use Rattle.onll_task.proofs.recovered.whole_line.Goals as goal

pub returns : goal.returns
returns c = record { eight = search rules; words = words_all c.args.line.w (λ i. search rules) }
