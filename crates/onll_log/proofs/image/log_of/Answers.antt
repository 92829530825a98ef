use Rattle.std.proofs.Common.{◌∙◌, ap, List, Some, arith}
use Rattle.onll_model.specs.Segment.{Segment}
use Rattle.onll_pmem.specs.Pmem.{words_of}
use Rattle.onll_log.specs.Grammar.{Content, entries_from, lines_in}
use Rattle.onll_log.proofs.Decoding.{segments_of_read, places_of_read, words_of-rest, used_lines}
use Rattle.onll_log.proofs.image.log_of.Goals as goal

pub returns-clause-content : goal.returns-clause-content
returns-clause-content c =
    let read = segments_of_read c.of_vec.result (entries_from c.args.head 0 0 (words_of c.split_at.result.1.now)) (c.of_vec.ensures ∙ c.in_ok-entries_of.ensures.entries) in
    let content : List Segment → Content = λ entries. record { head = Some c.args.head; entries = entries } in
    ap content (read ∙ ap (entries_from c.args.head 0 0) (words_of-rest c.args.lines.now c.split_at.result.1.now c.split_at.ensures.back))

pub returns-clause-lines : goal.returns-clause-lines
returns-clause-lines c = places_of_read c.of_vec.result (entries_from c.args.head 0 0 (words_of c.split_at.result.1.now)) (c.of_vec.ensures ∙ c.in_ok-entries_of.ensures.entries)

pub returns-clause-used : goal.returns-clause-used
returns-clause-used c =
    let read = segments_of_read c.of_vec.result (entries_from c.args.head 0 0 (words_of c.split_at.result.1.now)) (c.of_vec.ensures ∙ c.in_ok-entries_of.ensures.entries) in
    let here = read ∙ ap (entries_from c.args.head 0 0) (words_of-rest c.args.lines.now c.split_at.result.1.now c.split_at.ensures.back) in
    let lines = ap lines_in here in let most = used_lines c.args.head c.args.lines.now c.requires.head in omega arith
