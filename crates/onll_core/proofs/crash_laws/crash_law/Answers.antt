use Rattle.onll_core.proofs.Recovered.{crash_recovers, resumed_recovers, reached_recovers}
use Rattle.onll_core.proofs.crash_laws.crash_law.Goals as goal

pub returns-clause-begun : goal.returns-clause-begun
returns-clause-begun g c = crash_recovers g.O.Object.means

pub returns-clause-resumed : goal.returns-clause-resumed
returns-clause-resumed g c = resumed_recovers g.O.Object.means

pub returns-clause-reached : goal.returns-clause-reached
returns-clause-reached g c = reached_recovers g.O.Object.means
