use Rattle.std.proofs.Common.{◌≡◌, ◌∙◌, sym, ap, arith, take}
use Rattle.std.proofs.lemmas.List.{take-map, length-take-le}
use Rattle.std.specs.List.{flat_map}
use Rattle.onll_words.specs.Lines.{bytes_of_words}
use Rattle.onll_words.specs.declared.line.Line.{Line}
use Rattle.onll_pmem.specs.Pmem.{words_of}
use Rattle.onll_checkpoint.specs.Text.{lines_of_text}
use Rattle.onll_checkpoint.proofs.text_lines.text_in.Goals as goal

pub returns : goal.returns
returns c =
    let n = c.lines_of_text-2.result in
    let is = c.lines_of_text-2.ensures in
    let few = c.requires.lines in
    let long = length-take-le n c.args.lines.now (omega arith) in
    let all : c.loop-line.line-index ≡ lines_of_text c.args.bytes = omega arith in
    c.truncate.ensures.items
    ∙ ap (take c.args.bytes) (c.loop-line.invariant
    ∙ ap (flat_map bytes_of_words) (sym (take-map (λ (l : Line). l.w) c.loop-line.line-index c.args.lines.now) ∙ ap (λ k. take k (words_of c.args.lines.now)) all))
