use Rattle.onll_model.proofs.frames.look_law.Goals as goal
use Rattle.onll_model.proofs.Looks.{look_says}

pub returns : goal.returns
returns c = look_says
