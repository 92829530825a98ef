use Rattle.onll_task.proofs.RecoverSteps.{empty_in_words}
use Rattle.onll_task.proofs.nodes.put_log.Goals as goal

pub line-requires-clause-words : goal.line-requires-clause-words
line-requires-clause-words c = empty_in_words c.args.thread
