use Rattle.std.proofs.Common.{sym, ◌∙◌, ap, drop}
use Rattle.std.proofs.lemmas.List.{drop-map}
use Rattle.onll_words.specs.declared.line.Line.{Line}
use Rattle.onll_pmem.specs.Pmem.{words_of}
use Rattle.onll_log.specs.Decoded.{content_in}
use Rattle.onll_log.specs.Grammar.{are_zero_lines, used_by}
use Rattle.onll_log.proofs.decoded.Decoded.only_zeros_after.Goals as goal

pub returns : goal.returns
returns c = c.are_zero.ensures ∙ ap are_zero_lines (ap words_of c.split_at.ensures.back ∙ (ap (λ n. words_of (drop n c.args.image.now)) c.used.ensures ∙ sym (drop-map (λ (line : Line). line.w) (used_by (content_in c.args.self.now)) c.args.image.now)))
