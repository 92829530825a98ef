use Rattle.onll_core.proofs.StepEvents.{step_event}
use Rattle.onll_core.proofs.laws.step_event_law.Goals as goal

pub returns : goal.returns
returns g c = step_event g.O.Object.means
