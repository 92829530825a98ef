use Rattle.onll_audit.proofs.LinesRead.{lines_decide}
use Rattle.onll_audit.proofs.form_laws.form_law.Goals as goal

pub returns : goal.returns
returns g c = lines_decide g.O.Object.means g.O.Texted.wording
