use Rattle.onll_merge.proofs.Fronts.{merge-front, top_of-lies}
use Rattle.onll_merge.proofs.Backs.{merge-back}
use Rattle.onll_merge.proofs.merge_laws.Goals as goal

pub returns : goal.returns
returns c = record { front = merge-front; top = top_of-lies; back = merge-back }
