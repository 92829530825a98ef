use Rattle.onll_core.proofs.ReachedCores.{reached_order}
use Rattle.onll_core.proofs.outcomes.order_law.Goals as goal

pub returns : goal.returns
returns g c = reached_order g.O.Object.means
