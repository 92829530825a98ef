use Rattle.onll_workload.proofs.Determined.{made_words}
use Rattle.onll_workload.proofs.summary.put_made.Goals as goal

pub line-requires-clause-words : goal.line-requires-clause-words
line-requires-clause-words c = made_words c.args.threads c.args.updates c.args.reads
