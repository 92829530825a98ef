use Rattle.onll_serve.proofs.Linking.{leaves_in_files}
use Rattle.onll_serve.proofs.laws.files_law.Goals as goal

pub returns : goal.returns
returns g c = leaves_in_files g.O.Object.means g.P.Pmem.means
