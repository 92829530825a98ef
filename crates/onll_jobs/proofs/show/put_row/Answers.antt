use Rattle.std.proofs.lemmas.Result.{on_ok_weaker}
use Rattle.onll_jobs.proofs.ShowWords.{row_parts}
use Rattle.onll_jobs.proofs.show.put_row.Goals as goal

pub returns-clause-line : goal.returns-clause-line
returns-clause-line c = on_ok_weaker c.end_line.result
    (λ d. row_parts c.args.place c.args.node c.args.out.now c.words.new.self c.put_numbers.new.out c.end_line.new.self c.requires c.in_ok-words.ensures.ok c.in_ok-put_numbers.ensures.words d)
    c.end_line.ensures.ok
