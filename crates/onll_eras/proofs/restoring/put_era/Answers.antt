use Rattle.std.proofs.lemmas.Result.{on_ok_weaker}
use Rattle.onll_task.proofs.LineSteps.{begins_after}
use Rattle.onll_eras.specs.EraReports.{era_line}
use Rattle.onll_eras.proofs.EraSays.{era_in_words}
use Rattle.onll_eras.proofs.restoring.put_era.Goals as goal

pub line-requires-clause-words : goal.line-requires-clause-words
line-requires-clause-words c = era_in_words c.args.number c.args.place

pub returns-clause-begins : goal.returns-clause-begins
returns-clause-begins c =
    on_ok_weaker c.line.result (λ d. begins_after c.args.out.now c.line.new.self (era_line c.args.number c.args.place) d) c.line.ensures.ok
