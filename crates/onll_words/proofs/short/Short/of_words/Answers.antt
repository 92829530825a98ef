use Rattle.std.proofs.Common.{None, ap, sym, ◌∙◌}
use Rattle.std.specs.Str.{bytes_eq}
use Rattle.std.specs.Cmp.Lexicographic.{same_text}
use Rattle.onll_words.specs.Short.{short_of}
use Rattle.onll_words.proofs.Packing.{unpacked_says, packed-unpacked, bytes_in-front, unpacked-no_text, unpacked-same, unpacked-other}
use Rattle.onll_words.proofs.short.Short.of_words.Goals as goal

pub returns-in_err-short-clause-value : goal.returns-in_err-short-clause-value
returns-in_err-short-clause-value c =
    let front = bytes_in-front c.args.w c.word_bytes.result c.text_part.result.now c.word_bytes.ensures c.text_part.ensures in
    c.from_residual.ensures ∙ sym (unpacked-no_text c.args.w (ap short_of (sym front) ∙ sym c.read.ensures.value ∙ c.in_err-short.was))

pub returns-then-eq-clause-value : goal.returns-then-eq-clause-value
returns-then-eq-clause-value c = sym (unpacked-same c.args.w c.in_ok-short.short (sym c.words.ensures ∙ same_text c.words.result c.args.w (sym c.if-eq.true ∙ c.eq.ensures)))

pub returns-else-eq-clause-value : goal.returns-else-eq-clause-value
returns-else-eq-clause-value c =
    let front = bytes_in-front c.args.w c.word_bytes.result c.text_part.result.now c.word_bytes.ensures c.text_part.ensures in
    sym (unpacked-other c.args.w c.in_ok-short.short (ap short_of (sym front) ∙ sym c.read.ensures.value ∙ c.in_ok-short.was)
    (ap (λ words. bytes_eq words c.args.w) (sym c.words.ensures) ∙ sym c.eq.ensures ∙ c.if-eq.false))

pub returns-in_err-short-clause-words : goal.returns-in_err-short-clause-words
returns-in_err-short-clause-words c = unpacked_says c.args.w c.from_residual.result (returns-in_err-short-clause-value c)

pub returns-then-eq-clause-words : goal.returns-then-eq-clause-words
returns-then-eq-clause-words c = packed-unpacked c.args.w c.in_ok-short.short (sym (returns-then-eq-clause-value c))

pub returns-else-eq-clause-words : goal.returns-else-eq-clause-words
returns-else-eq-clause-words c = unpacked_says c.args.w None (returns-else-eq-clause-value c)
