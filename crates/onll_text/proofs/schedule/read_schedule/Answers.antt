use Rattle.std.proofs.lemmas.Result.{MatchResult-weaker}
use Rattle.onll_text.proofs.Playable.{schedule_is_playable}
use Rattle.onll_text.proofs.schedule.read_schedule.Goals as goal

pub returns-clause-playable : goal.returns-clause-playable
returns-clause-playable c = MatchResult-weaker c.read_lines.result c.read_lines.ensures (λ s d. schedule_is_playable c.args.threads c.of-lines.result s d) (λ fault d. tt)
