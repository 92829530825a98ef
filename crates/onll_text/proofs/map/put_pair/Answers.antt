use Rattle.std.proofs.Common.{◌∷◌, [], codes}
use Rattle.std.proofs.lemmas.Result.{on_ok_weaker}
use Rattle.onll_text.proofs.LineWords.{whole_line}
use Rattle.onll_text.proofs.MapReadBack.{pair_line_in_words}
use Rattle.onll_text.proofs.Keeping.{line_front, line_end_front}
use Rattle.onll_text.proofs.map.put_pair.Goals as goal

pub returns-clause-line : goal.returns-clause-line
returns-clause-line c = on_ok_weaker c.end_line.result
    (λ d. (whole_line _ _ _ (codes "pair") (c.args.pair.0.bytes ∷ c.args.pair.1.bytes ∷ []) c.in_ok-words.ensures.ok d c.requires (pair_line_in_words c.args.pair)).0)
    c.end_line.ensures.ok

pub returns-in_err-words-clause-within : goal.returns-in_err-words-clause-within
returns-in_err-words-clause-within c = line_front _ _ (codes "pair") (c.args.pair.0.bytes ∷ c.args.pair.1.bytes ∷ []) c.requires (pair_line_in_words c.args.pair) c.words.ensures.within

pub returns-clause-within : goal.returns-clause-within
returns-clause-within c = line_end_front _ _ _ (codes "pair") (c.args.pair.0.bytes ∷ c.args.pair.1.bytes ∷ []) c.in_ok-words.ensures.ok c.requires (pair_line_in_words c.args.pair) c.end_line.ensures.within
