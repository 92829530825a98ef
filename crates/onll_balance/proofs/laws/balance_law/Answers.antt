use Rattle.onll_balance.proofs.Balancing.{over_fronts, over_whole}
use Rattle.onll_balance.proofs.laws.balance_law.Goals as goal

pub returns-clause-front : goal.returns-clause-front
returns-clause-front g c m = over_fronts g.O.Object.means m

pub returns-clause-whole : goal.returns-clause-whole
returns-clause-whole g c m = over_whole g.O.Object.means m
