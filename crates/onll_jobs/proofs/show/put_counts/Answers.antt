use Rattle.onll_jobs.proofs.ShowWords.{count_in_words}
use Rattle.onll_jobs.proofs.show.put_counts.Goals as goal

pub line-requires-clause-words : goal.line-requires-clause-words
line-requires-clause-words c = count_in_words c.args.entries c.args.lines
