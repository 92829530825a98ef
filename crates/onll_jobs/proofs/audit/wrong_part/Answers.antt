use Rattle.std.proofs.Common.{refl}
use Rattle.onll_words.proofs.Decimals.{IsWord-decimal}
use Rattle.onll_jobs.proofs.audit.wrong_part.Goals as goal

pub says_line-requires-clause-words : goal.says_line-requires-clause-words
says_line-requires-clause-words c = (record { some = refl; bytes = refl }, (IsWord-decimal c.args.line, (record { some = refl; bytes = refl }, (c.requires, tt))))
