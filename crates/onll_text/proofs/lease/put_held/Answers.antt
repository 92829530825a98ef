use Rattle.std.proofs.Common.{◌∷◌, [], codes, decimal}
use Rattle.std.proofs.lemmas.Result.{on_ok_weaker}
use Rattle.onll_text.proofs.LineWords.{whole_line}
use Rattle.onll_text.proofs.LeaseReadBack.{held_line_in_words}
use Rattle.onll_text.proofs.Keeping.{line_front, line_end_front}
use Rattle.onll_text.proofs.lease.put_held.Goals as goal

pub returns-clause-line : goal.returns-clause-line
returns-clause-line c = on_ok_weaker c.end_line.result
    (λ d. (whole_line _ _ _ (codes "held") (decimal c.args.r ∷ decimal c.args.entry.token ∷ decimal c.args.entry.holder ∷ decimal c.args.entry.until ∷ []) c.in_ok-words.ensures.ok d c.requires (held_line_in_words c.args.r c.args.entry)).0)
    c.end_line.ensures.ok

pub returns-in_err-words-clause-within : goal.returns-in_err-words-clause-within
returns-in_err-words-clause-within c = line_front _ _ (codes "held") (decimal c.args.r ∷ decimal c.args.entry.token ∷ decimal c.args.entry.holder ∷ decimal c.args.entry.until ∷ []) c.requires (held_line_in_words c.args.r c.args.entry) c.words.ensures.within

pub returns-clause-within : goal.returns-clause-within
returns-clause-within c = line_end_front _ _ _ (codes "held") (decimal c.args.r ∷ decimal c.args.entry.token ∷ decimal c.args.entry.holder ∷ decimal c.args.entry.until ∷ []) c.in_ok-words.ensures.ok c.requires (held_line_in_words c.args.r c.args.entry) c.end_line.ensures.within
