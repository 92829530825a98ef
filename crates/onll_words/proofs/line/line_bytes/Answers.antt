use Rattle.std.proofs.Common.{rules, ap, ◌∙◌}
use Rattle.onll_words.specs.Lines.{words_of_bytes}
use Rattle.onll_words.proofs.LineBytes.{words_of_bytes-bytes_of_words}
use Rattle.onll_words.proofs.line.line_bytes.Goals as goal

pub returns-clause-words : goal.returns-clause-words
returns-clause-words c =
    ap words_of_bytes c.write_u64_into.ensures ∙ words_of_bytes-bytes_of_words c.args.line.w (search rules) (λ i. search rules)
