use Rattle.onll_core.proofs.Stays.{steps_stay}
use Rattle.onll_core.proofs.laws.stays_law.Goals as goal

pub returns : goal.returns
returns g c = steps_stay g.O.Object.means
