use Rattle.std.proofs.Common.{[], ◌∷◌, codes, decimal}
use Rattle.std.proofs.lemmas.Result.{on_ok_weaker}
use Rattle.onll_task.proofs.LineSteps.{begins_after}
use Rattle.onll_task.proofs.RecoverSteps.{resumed_in_words}
use Rattle.onll_task.proofs.nodes.put_resumed.Goals as goal

pub line-requires-clause-words : goal.line-requires-clause-words
line-requires-clause-words c = resumed_in_words c.in-Some.nodes

pub returns-in-Some-clause-begins : goal.returns-in-Some-clause-begins
returns-in-Some-clause-begins c =
    on_ok_weaker c.line.result (λ d. begins_after c.args.out.now c.line.new.self (codes "resumed" ∷ decimal c.in-Some.nodes ∷ []) d) c.line.ensures.ok
