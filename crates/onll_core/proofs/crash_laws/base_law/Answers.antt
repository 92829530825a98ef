use Rattle.onll_start.proofs.Based.{base_is}
use Rattle.onll_core.proofs.Based.{same_base, same_refusal}
use Rattle.onll_core.proofs.crash_laws.base_law.Goals as goal

pub returns-clause-base : goal.returns-clause-base
returns-clause-base g c = base_is g.O.Object.means

pub returns-clause-same : goal.returns-clause-same
returns-clause-same g c = same_base g.O.Object.means

pub returns-clause-refused : goal.returns-clause-refused
returns-clause-refused g c = same_refusal g.O.Object.means
