use Rattle.std.proofs.Common.{[], ◌∷◌, decimal, ap, ◌∙◌}
use Rattle.std.proofs.lemmas.Result.{on_ok_weaker}
use Rattle.onll_words.proofs.Decimals.{IsWord-decimal}
use Rattle.onll_text.specs.Bytes.{begins_line}
use Rattle.onll_text.proofs.Appending.{begins_line-line}
use Rattle.onll_shipping.proofs.follow.put_number.Goals as goal

pub line-requires-clause-words : goal.line-requires-clause-words
line-requires-clause-words c = (c.requires.word, (IsWord-decimal c.args.number, tt))

pub returns-clause-begins : goal.returns-clause-begins
returns-clause-begins c = on_ok_weaker c.line.result (λ d. ap begins_line d ∙ begins_line-line c.args.out.now (c.args.word.now ∷ decimal c.args.number ∷ [])) c.line.ensures.ok
