use Rattle.std.proofs.Common.{◌∷◌, [], codes, decimal, refl}
use Rattle.onll_words.proofs.Decimals.{IsWord-decimal}
use Rattle.onll_text.proofs.Keeping.{line_front}
use Rattle.onll_text.proofs.report.Report.trace_line.Goals as goal

pub returns-in_err-words-clause-within : goal.returns-in_err-words-clause-within
returns-in_err-words-clause-within c =
    line_front _ _ (codes "trace") (decimal c.args.count ∷ []) c.requires (record { some = refl; bytes = refl }, (IsWord-decimal c.args.count, tt)) c.words.ensures.within
