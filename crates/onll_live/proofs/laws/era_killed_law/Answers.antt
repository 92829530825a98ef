use Rattle.onll_live.proofs.Killed.{era_killed}
use Rattle.onll_live.proofs.laws.era_killed_law.Goals as goal

pub returns : goal.returns
returns g c = era_killed g.O.Object.means g.P.Pmem.means c.moment_law.ensures.killed
