use Rattle.onll_run.proofs.Beginning.{ready_all}
use Rattle.onll_run.proofs.laws.ready_law.Goals as goal

pub returns : goal.returns
returns g c onll = ready_all g.O.Object.means g.P.Pmem.means onll
