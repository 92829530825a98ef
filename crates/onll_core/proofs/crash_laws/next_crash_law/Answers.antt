use Rattle.onll_core.proofs.GoOn.{can_resume, more_nodes, next_recovers}
use Rattle.onll_core.proofs.crash_laws.next_crash_law.Goals as goal

pub returns-clause-on : goal.returns-clause-on
returns-clause-on g c = can_resume

pub returns-clause-more : goal.returns-clause-more
returns-clause-more g c = more_nodes g.O.Object.means

pub returns-clause-next : goal.returns-clause-next
returns-clause-next g c = next_recovers g.O.Object.means
