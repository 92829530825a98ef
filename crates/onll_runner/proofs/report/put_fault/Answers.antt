use Rattle.std.proofs.lemmas.Result.{on_ok_weaker}
use Rattle.onll_text.specs.Lines.{fence_line}
use Rattle.onll_task.proofs.LineSteps.{begins_after}
use Rattle.onll_runner.proofs.ReportSteps.{fault_in_words}
use Rattle.onll_runner.proofs.report.put_fault.Goals as goal

pub line-requires-clause-words : goal.line-requires-clause-words
line-requires-clause-words c = fault_in_words c.args.thread c.in-Some.place

pub returns-in-Some-clause-begins : goal.returns-in-Some-clause-begins
returns-in-Some-clause-begins c =
    on_ok_weaker c.line.result (λ d. begins_after c.args.out.now c.line.new.self (fence_line c.args.thread c.in-Some.place) d) c.line.ensures.ok
