use Rattle.onll_shared.proofs.Chosen.{crash_recovers}
use Rattle.onll_shared.proofs.laws.crash_law.Goals as goal

pub returns : goal.returns
returns g c = record { crash = crash_recovers }
