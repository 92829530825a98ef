use Rattle.onll_keeps.proofs.Lifetimes.{life_floor}
use Rattle.onll_keeps.proofs.laws.life_floor_law.Goals as goal

pub returns : goal.returns
returns g c first f = life_floor g.O.Object.means first f (c.floor_law.ensures.front f)
