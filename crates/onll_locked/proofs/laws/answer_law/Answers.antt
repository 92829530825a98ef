use Rattle.onll_locked.proofs.Merged.{done_answers}
use Rattle.onll_locked.proofs.laws.answer_law.Goals as goal

pub returns : goal.returns
returns g c = record { answers = λ s new t th log log' was is next d. done_answers g.O.Object.means s new t th log log' was is next d }
