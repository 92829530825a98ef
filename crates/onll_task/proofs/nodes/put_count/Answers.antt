use Rattle.std.proofs.lemmas.Result.{on_ok_weaker}
use Rattle.onll_text.specs.Lines.{recovered_line}
use Rattle.onll_task.proofs.LineSteps.{begins_after}
use Rattle.onll_task.proofs.RecoverSteps.{recovered_in_words}
use Rattle.onll_task.proofs.nodes.put_count.Goals as goal

pub line-requires-clause-words : goal.line-requires-clause-words
line-requires-clause-words c = recovered_in_words c.args.nodes

pub returns-clause-begins : goal.returns-clause-begins
returns-clause-begins c =
    on_ok_weaker c.line.result (λ d. begins_after c.args.out.now c.line.new.self (recovered_line c.args.nodes) d) c.line.ensures.ok
