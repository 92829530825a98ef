use Rattle.std.proofs.Common.{ℕ, List, ap, ◌∙◌, subst}
use Rattle.std.specs.List.{flat_map}
use Rattle.onll_words.specs.Texts.{line_text}
use Rattle.onll_text.specs.Bytes.{with_lines}
use Rattle.onll_workload.specs.declared.summary.Summary.{Summary}
use Rattle.onll_workload.specs.Made.{summary_lines, SummaryReads, made_summary}
use Rattle.onll_workload.proofs.Determined.{summary_says}
use Rattle.onll_workload.proofs.made.make_report.Goals as goal

pub returns-clause-says : goal.returns-clause-says
returns-clause-says g c =
    summary_says c.into_bytes.result.items (made_summary c.args.workload)
    (c.into_bytes.ensures ∙ c.in_ok-put.ensures.lines ∙ ap (λ (o : List ℕ). with_lines o (summary_lines c.in_ok-summary.summary)) c.new-out.ensures
    ∙ ap (λ (s : Summary). flat_map line_text (summary_lines s)) c.in_ok-summary.ensures)
    (subst SummaryReads c.in_ok-summary.ensures c.in_ok-put.ensures.reads)
