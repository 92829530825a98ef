use Rattle.onll_text.proofs.Determined.{fold_determined}
use Rattle.onll_text.proofs.report_laws.fold_determined_law.Goals as goal

pub returns : goal.returns
returns g c = fold_determined g.O.Object.means g.O.Texted.wording
