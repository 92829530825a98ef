use Rattle.onll_balance.proofs.Balancing.{floor_of_fronts, floor_of_whole}
use Rattle.onll_balance.proofs.laws.floor_law.Goals as goal

pub returns-clause-front : goal.returns-clause-front
returns-clause-front g c f = floor_of_fronts g.O.Object.means f

pub returns-clause-whole : goal.returns-clause-whole
returns-clause-whole g c f = floor_of_whole g.O.Object.means f
