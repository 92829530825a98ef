use Rattle.std.proofs.Common.{[], ◌∷◌, codes, decimal}
use Rattle.std.proofs.lemmas.Result.{on_ok_weaker}
use Rattle.onll_model.specs.Segment.{Segment}
use Rattle.onll_log.specs.Cursor.{entries_left, first_nodes}
use Rattle.onll_task.proofs.LineSteps.{begins_after}
use Rattle.onll_jobs.proofs.ShowWords.{entry_in_words, entry_parts}
use Rattle.onll_jobs.proofs.show.put_entry.Goals as goal

pub line-requires-clause-words : goal.line-requires-clause-words
line-requires-clause-words c =
    let shown : Segment = record { place = c.args.entry.place; nodes = first_nodes (entries_left c.args.cursor.now) } in
    rw c.requires.count (entry_in_words c.args.number shown)

pub put_rows-requires-clause-begins : goal.put_rows-requires-clause-begins
put_rows-requires-clause-begins c =
    begins_after c.args.out.now c.line.new.self (codes "entry" ∷ decimal c.args.number ∷ codes "place" ∷ decimal c.args.entry.place ∷ codes "count" ∷ decimal c.args.entry.count ∷ [])
    c.in_ok-line.ensures.ok

pub returns-clause-lines : goal.returns-clause-lines
returns-clause-lines c =
    let shown : Segment = record { place = c.args.entry.place; nodes = first_nodes (entries_left c.args.cursor.now) } in
    on_ok_weaker c.put_rows.result
    (λ d. entry_parts c.args.number c.args.entry.count shown c.args.out.now c.line.new.self c.put_rows.new.out c.requires.count c.in_ok-line.ensures.ok d)
    c.put_rows.ensures.lines
