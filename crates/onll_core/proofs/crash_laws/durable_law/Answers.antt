use Rattle.onll_core.proofs.Durable.{always_durable}
use Rattle.onll_core.proofs.crash_laws.durable_law.Goals as goal

pub returns : goal.returns
returns g c = always_durable g.O.Object.means
