use Rattle.onll_locked.proofs.Firsts.{first_log}
use Rattle.onll_locked.proofs.laws.first_log_law.Goals as goal

pub returns : goal.returns
returns g c = record { first = λ initial scripts script t log lines at thread threads empty whole room. first_log initial scripts script t log lines at thread threads empty whole room }
