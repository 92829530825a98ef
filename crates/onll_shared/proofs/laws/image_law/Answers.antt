use Rattle.onll_shared.proofs.Closings.{log_of_tied, left_of_tied}
use Rattle.onll_shared.proofs.laws.image_law.Goals as goal

pub returns-clause-log : goal.returns-clause-log
returns-clause-log g c = log_of_tied g.O.Object.means g.P.Pmem.means

pub returns-clause-image : goal.returns-clause-image
returns-clause-image g c = left_of_tied g.O.Object.means g.P.Pmem.means
