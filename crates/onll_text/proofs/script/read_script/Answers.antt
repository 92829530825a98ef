use Rattle.std.proofs.lemmas.Result.{MatchResult-weaker}
use Rattle.onll_text.proofs.FewCalls.{few_calls_in}
use Rattle.onll_text.proofs.script.read_script.Goals as goal

pub returns-clause-updates : goal.returns-clause-updates
returns-clause-updates g c = MatchResult-weaker c.read_lines.result c.read_lines.ensures (λ calls d. (few_calls_in g.O.Texted.wording c.of-lines.result calls.items d).0) (λ fault d. tt)

pub returns-clause-reads : goal.returns-clause-reads
returns-clause-reads g c = MatchResult-weaker c.read_lines.result c.read_lines.ensures (λ calls d. (few_calls_in g.O.Texted.wording c.of-lines.result calls.items d).1) (λ fault d. tt)
