use Rattle.std.proofs.Common.{[], codes, refl}
use Rattle.onll_text.proofs.Keeping.{first_line_front, first_end_front}
use Rattle.onll_text.proofs.report.Report.state_lines.Goals as goal

pub returns-in_err-word-clause-within : goal.returns-in_err-word-clause-within
returns-in_err-word-clause-within g c =
    first_line_front _ _ (codes "state") [] (g.O.Texted.wording.state_lines c.args.object.now) c.requires (record { some = refl; bytes = refl }, tt) c.word.ensures.within

pub returns-in_err-end_line-clause-within : goal.returns-in_err-end_line-clause-within
returns-in_err-end_line-clause-within g c =
    first_end_front _ _ _ (codes "state") [] (g.O.Texted.wording.state_lines c.args.object.now) c.in_ok-word.ensures.ok c.requires (record { some = refl; bytes = refl }, tt) c.end_line.ensures.within
