use Rattle.onll_run.proofs.Whole.{run_whole}
use Rattle.onll_run.proofs.laws.run_law.Goals as goal

pub returns : goal.returns
returns g c onll = run_whole g.O.Object.means g.P.Pmem.means onll
