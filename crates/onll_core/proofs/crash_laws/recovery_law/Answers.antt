use Rattle.onll_core.proofs.Crashed.{recovers, steps_heads, later_recovers}
use Rattle.onll_core.proofs.crash_laws.recovery_law.Goals as goal

pub returns-clause-recovery : goal.returns-clause-recovery
returns-clause-recovery g c = recovers

pub returns-clause-heads : goal.returns-clause-heads
returns-clause-heads g c = steps_heads g.O.Object.means

pub returns-clause-later : goal.returns-clause-later
returns-clause-later g c = later_recovers g.O.Object.means
