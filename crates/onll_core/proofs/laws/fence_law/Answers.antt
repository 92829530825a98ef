use Rattle.onll_core.proofs.Fences.{steps_counts}
use Rattle.onll_core.proofs.Created.{created_counts}
use Rattle.onll_core.proofs.FirstCore.{first_counts, resumed_counts}
use Rattle.onll_core.proofs.Ready.{entries_few}
use Rattle.onll_core.proofs.laws.fence_law.Goals as goal

pub returns-clause-first : goal.returns-clause-first
returns-clause-first g c = first_counts

pub returns-clause-created : goal.returns-clause-created
returns-clause-created g c = created_counts

pub returns-clause-resumed : goal.returns-clause-resumed
returns-clause-resumed g c = resumed_counts

pub returns-clause-fences : goal.returns-clause-fences
returns-clause-fences g c = steps_counts g.O.Object.means

pub returns-clause-entries : goal.returns-clause-entries
returns-clause-entries g c = entries_few
