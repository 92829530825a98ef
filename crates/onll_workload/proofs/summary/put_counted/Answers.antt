use Rattle.onll_workload.proofs.Determined.{counted_words}
use Rattle.onll_workload.proofs.summary.put_counted.Goals as goal

pub line-requires-clause-words : goal.line-requires-clause-words
line-requires-clause-words c = counted_words c.args.name.now c.args.number c.requires.word
