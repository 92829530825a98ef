use Rattle.onll_model.proofs.frames.total_order_law.Goals as goal
use Rattle.onll_model.proofs.StandOrder.{stand_order}

pub returns : goal.returns
returns c = stand_order
