use Rattle.std.proofs.lemmas.Result.{on_ok_weaker}
use Rattle.onll_recovery.specs.ReplayJob.{crash_line}
use Rattle.onll_task.proofs.LineSteps.{begins_after}
use Rattle.onll_recovery.proofs.ReplaySteps.{crash_in_words}
use Rattle.onll_recovery.proofs.crashed.put_crash.Goals as goal

pub line-requires-clause-words : goal.line-requires-clause-words
line-requires-clause-words c = crash_in_words c.args.keep

pub returns-clause-begins : goal.returns-clause-begins
returns-clause-begins c =
    on_ok_weaker c.line.result (λ d. begins_after c.args.out.now c.line.new.self (crash_line c.args.keep) d) c.line.ensures.ok
