use Rattle.std.proofs.Common.{length}
use Rattle.onll_audit.specs.Values.{as_form}
use Rattle.onll_audit.proofs.Counting.{form_lines}
use Rattle.onll_audit.proofs.auditor.verdict.Goals as goal

pub wrong_line-requires-clause-few : goal.wrong_line-requires-clause-few
wrong_line-requires-clause-few g c κs within =
    form_lines g.O.Object.means g.O.Texted.wording (length c.args.scripts.now) c.args.report.now (as_form c.in-Ok.form) c.in-Ok.ensures.form
