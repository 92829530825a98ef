use Rattle.onll_core.proofs.ReachedCores.{reached_returns}
use Rattle.onll_core.proofs.outcomes.return_law.Goals as goal

pub returns : goal.returns
returns g c = reached_returns g.O.Object.means
