use Rattle.onll_run.proofs.Ending.{passes_end}
use Rattle.onll_run.proofs.laws.passes_law.Goals as goal

pub returns : goal.returns
returns g c onll = passes_end g.O.Object.means g.P.Pmem.means onll
