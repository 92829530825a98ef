use Rattle.onll_core.proofs.Created.{created_consistent}
use Rattle.onll_core.proofs.FirstCore.{first_consistent, resumed_consistent}
use Rattle.onll_core.proofs.Kept.{step_consistent, steps_consistent}
use Rattle.onll_core.proofs.laws.consistency_law.Goals as goal

pub returns-clause-first : goal.returns-clause-first
returns-clause-first g c = first_consistent

pub returns-clause-created : goal.returns-clause-created
returns-clause-created g c = created_consistent

pub returns-clause-resumed : goal.returns-clause-resumed
returns-clause-resumed g c = resumed_consistent

pub returns-clause-step : goal.returns-clause-step
returns-clause-step g c = step_consistent g.O.Object.means

pub returns-clause-steps : goal.returns-clause-steps
returns-clause-steps g c = steps_consistent g.O.Object.means
