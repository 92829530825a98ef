use Rattle.onll_standby.proofs.Shows.{never_memory, follows_covered}
use Rattle.onll_standby.proofs.laws.course_law.Goals as goal

pub returns : goal.returns
returns g c = record { fault = λ heads. never_memory g.O.Object.means heads; covered = λ heads. follows_covered g.O.Object.means heads }
