use Rattle.onll_keeps.proofs.Lifetimes.{life_balance}
use Rattle.onll_keeps.proofs.laws.life_balance_law.Goals as goal

pub returns : goal.returns
returns g c first m = life_balance g.O.Object.means first m (c.balance_law.ensures.front m)
