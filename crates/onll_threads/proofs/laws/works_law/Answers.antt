use Rattle.onll_threads.proofs.Ending.{works_end}
use Rattle.onll_threads.proofs.laws.works_law.Goals as goal

pub returns : goal.returns
returns g c = works_end g.O.Object.means g.P.Pmem.means g.W.Work.promise
