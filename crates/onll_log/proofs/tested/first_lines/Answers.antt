use Rattle.std.proofs.Common.{take, sym, ap, ◌∙◌}
use Rattle.std.proofs.lemmas.List.{take-map}
use Rattle.std.specs.Cow.{cow_slice_items}
use Rattle.onll_words.specs.declared.line.Line.{Line}
use Rattle.onll_pmem.specs.Pmem.{words_of}
use Rattle.onll_log.proofs.tested.first_lines.Goals as goal

pub returns-in-Owned : goal.returns-in-Owned
returns-in-Owned c =
    ap words_of (c.shrink_to_fit.ensures.items ∙ c.truncate.ensures.items)
    ∙ (sym (take-map (λ (l : Line). l.w) c.args.count c.in-Owned.lines.items)
    ∙ ap (λ lines. take c.args.count (words_of (cow_slice_items lines))) (sym c.in-Owned.is))
