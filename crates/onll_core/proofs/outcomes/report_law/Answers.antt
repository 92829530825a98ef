use Rattle.onll_core.proofs.ReachedCores.{reached_report}
use Rattle.onll_core.proofs.outcomes.report_law.Goals as goal

pub returns : goal.returns
returns g c = reached_report g.O.Object.means
