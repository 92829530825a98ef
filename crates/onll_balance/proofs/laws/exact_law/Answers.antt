use Rattle.onll_balance.specs.Floor.{floor_of, measure_of}
use Rattle.onll_balance.proofs.Exactly.{exact_fronts, exact_whole}
use Rattle.onll_balance.proofs.laws.exact_law.Goals as goal

pub returns-clause-front : goal.returns-clause-front
returns-clause-front g c e =
    exact_fronts g.O.Object.means e (c.balance_law.ensures.front (measure_of e)) (c.floor_law.ensures.front (floor_of e))

pub returns-clause-whole : goal.returns-clause-whole
returns-clause-whole g c e =
    exact_whole g.O.Object.means e (c.balance_law.ensures.whole (measure_of e)) (c.floor_law.ensures.whole (floor_of e))
