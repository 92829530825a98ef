use Rattle.onll_serve.proofs.Lives.{leaves_fronts}
use Rattle.onll_serve.proofs.laws.fronts_law.Goals as goal

pub returns : goal.returns
returns g c = leaves_fronts g.O.Object.means g.P.Pmem.means
