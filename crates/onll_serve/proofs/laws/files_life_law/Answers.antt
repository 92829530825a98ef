use Rattle.onll_serve.proofs.Linking.{files_life}
use Rattle.onll_serve.proofs.laws.files_life_law.Goals as goal

pub returns : goal.returns
returns g c = files_life g.O.Object.means
