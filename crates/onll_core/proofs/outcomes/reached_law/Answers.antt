use Rattle.onll_core.proofs.ReachedCores.{first_reached, created_reached, resumed_reached, fresh_reached, step_reached, steps_reached, reached_consistent}
use Rattle.onll_core.proofs.outcomes.reached_law.Goals as goal

pub returns-clause-first : goal.returns-clause-first
returns-clause-first g c = first_reached g.O.Object.means

pub returns-clause-created : goal.returns-clause-created
returns-clause-created g c = created_reached g.O.Object.means

pub returns-clause-resumed : goal.returns-clause-resumed
returns-clause-resumed g c = resumed_reached g.O.Object.means

pub returns-clause-fresh : goal.returns-clause-fresh
returns-clause-fresh g c = fresh_reached g.O.Object.means

pub returns-clause-step : goal.returns-clause-step
returns-clause-step g c = step_reached g.O.Object.means

pub returns-clause-steps : goal.returns-clause-steps
returns-clause-steps g c = steps_reached g.O.Object.means

pub returns-clause-consistent : goal.returns-clause-consistent
returns-clause-consistent g c = reached_consistent g.O.Object.means
