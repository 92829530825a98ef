use Rattle.onll_merge.proofs.Resumed.{can_go_on}
use Rattle.onll_merge.proofs.resumable_law.Goals as goal

pub returns : goal.returns
returns c = record { on = can_go_on }
