use Rattle.std.proofs.Common.{◌≡◌, ap, take, ◌∙◌}
use Rattle.std.specs.Option.{option_map}
use Rattle.std.specs.Cow.{cow_slice_items}
use Rattle.onll_pmem.specs.Pmem.{words_of}
use Rattle.onll_log.specs.Grammar.{content_of}
use Rattle.onll_log.specs.Survey.{survey_of}
use Rattle.onll_log.proofs.Surveys.{tested}
use Rattle.onll_log.proofs.tested.TestedImage.of_lines.Goals as goal

pub invariant_of-result : goal.invariant_of-result
invariant_of-result c =
    let words = words_of (cow_slice_items c.args.lines) in
    let is : c.surveyed-survey.result ≡ option_map survey_of (content_of words) =
    c.surveyed-survey.ensures ∙ ap (λ ls. option_map survey_of (content_of (words_of ls))) c.as_slice.ensures.value in
    tested words (words_of (cow_slice_items c.first_lines.result)) c.surveyed-survey.result
    (c.first_lines.ensures ∙ ap (λ n. take n words) (c.lines_used.ensures (content_of words) is)) is

pub returns : goal.returns
returns c =
    let words = words_of (cow_slice_items c.args.lines) in
    let is : c.surveyed-survey.result ≡ option_map survey_of (content_of words) =
    c.surveyed-survey.ensures ∙ ap (λ ls. option_map survey_of (content_of (words_of ls))) c.as_slice.ensures.value in
    c.first_lines.ensures ∙ ap (λ n. take n words) (c.lines_used.ensures (content_of words) is)
