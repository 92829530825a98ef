use Rattle.onll_recovery.proofs.Detects.{stranger_in_words}
use Rattle.onll_recovery.proofs.detect.not_in_script.Goals as goal

pub line-line-requires-clause-words : goal.line-line-requires-clause-words
line-line-requires-clause-words c = stranger_in_words c.args.place
