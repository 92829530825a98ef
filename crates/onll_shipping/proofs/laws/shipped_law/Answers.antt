use Rattle.onll_shipping.proofs.Recovering.{follows_recovered}
use Rattle.onll_shipping.proofs.laws.shipped_law.Goals as goal

pub returns : goal.returns
returns g c code init images logs r some few files is given = follows_recovered g.O.Object.means code init images logs r some few files is given
