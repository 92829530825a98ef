use Rattle.onll_serve.proofs.Lives as lives
use Rattle.onll_serve.proofs.laws.life_law.Goals as goal

pub returns : goal.returns
returns g c = lives.life_law
