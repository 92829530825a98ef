use Rattle.onll_task.proofs.RecoverSteps.{old_in_words}
use Rattle.onll_task.proofs.faults.old_log.Goals as goal

pub line-line-requires-clause-words : goal.line-line-requires-clause-words
line-line-requires-clause-words c = old_in_words c.args.log
