use Rattle.std.proofs.Common.{rules, ◌++◌, map, ap, ◌∙◌}
use Rattle.std.proofs.lemmas.Result.{IfOk-weaker}
use Rattle.onll_words.specs.Lines.{words_of_bytes}
use Rattle.onll_words.proofs.WordBytes.{Bytes}
use Rattle.onll_pmem.specs.Pmem.{words_of}
use Rattle.onll_outside.specs.declared.store.FileLines.{FileLines}
use Rattle.onll_outside.specs.Views.{with_zeros}
use Rattle.onll_outside.specs.LineFiles.{HasLines}
use Rattle.onll_outside.proofs.Gathering.{has_lines}
use Rattle.onll_outside.proofs.gather.lines_of.Goals as goal

pub returns-clause-lines : goal.returns-clause-lines
returns-clause-lines c =
    let bytes = c.args.bytes.now in
    let are : Bytes bytes = search rules in
    let all = c.in_ok-gather.ensures.lines ∙ (ap (λ ls. with_zeros (words_of ls) 0 ++ map words_of_bytes c.as_chunks.result.0.now) c.new.ensures.items ∙ ap (map words_of_bytes) c.as_chunks.ensures.front) in
    IfOk-weaker c.ended.result _ (λ (l : FileLines). HasLines bytes (words_of l.front.items) l.count) (λ l h. has_lines bytes (words_of l.front.items) l.count are (h ∙ all)) c.ended.ensures.lines
