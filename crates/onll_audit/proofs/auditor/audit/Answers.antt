use Rattle.onll_audit.proofs.Judged.{legal_result}
use Rattle.onll_audit.proofs.auditor.audit.Goals as goal

pub returns-clause-legal : goal.returns-clause-legal
returns-clause-legal g c = legal_result g.O.Object.means g.O.Texted.wording c.args.object _ c.args.report.now c.verdict.result c.verdict.ensures
