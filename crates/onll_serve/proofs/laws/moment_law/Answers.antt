use Rattle.onll_serve.proofs.Moments as moments
use Rattle.onll_serve.proofs.laws.moment_law.Goals as goal

pub returns-clause-moment : goal.returns-clause-moment
returns-clause-moment g c = moments.moment_law g.O.Object.means g.P.Pmem.means

pub returns-clause-killed : goal.returns-clause-killed
returns-clause-killed g c = moments.killed_law g.O.Object.means g.P.Pmem.means
