use Rattle.std.proofs.Common.{[], ◌∙◌}
use Rattle.onll_task.proofs.Stages.{none_does}
use Rattle.onll_recovery.proofs.crashed.crash_answer.Goals as goal

pub returns : goal.returns
returns g c = rw (c.deref.ensures.value ∙ c.in_ok-heads.ensures) at c.answer_from.ensures

pub returns-in_err-heads : goal.returns-in_err-heads
returns-in_err-heads g c store = none_does [] store _ c.from_residual.ensures.1
