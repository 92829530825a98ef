use Rattle.std.proofs.Common.{sym, ap, ◌∙◌}
use Rattle.onll_log.specs.declared.survey.LogSurvey.{LogSurvey}
use Rattle.onll_log.proofs.Surveys.{rises_from}
use Rattle.onll_merge.proofs.first_pass.measure.Goals as goal

pub returns-clause-rises : goal.returns-clause-rises
returns-clause-rises c =
    rises_from 0 0 c.args.cursor.now.content.entries (sym (ap (λ (s : LogSurvey). s.disorder) c.survey-survey.ensures.survey) ∙ c.in_default.is)
