use Rattle.onll_core.proofs.Generations.{generations_leave, prefixes, refused_only}
use Rattle.onll_core.proofs.crash_laws.generations_law.Goals as goal

pub returns-clause-leaves : goal.returns-clause-leaves
returns-clause-leaves g c = generations_leave g.O.Object.means

pub returns-clause-prefix : goal.returns-clause-prefix
returns-clause-prefix g c = prefixes g.O.Object.means

pub returns-clause-refused : goal.returns-clause-refused
returns-clause-refused g c = refused_only g.O.Object.means
