use Rattle.onll_keeps.proofs.Tallying.{at_seat, both_read}
use Rattle.onll_stock.proofs.customer.Customer.visit.Goals as goal
use Rattle.onll_stock.proofs.customer.Customer.visit.Goals.{in-TooFew+in-Items, in_default}

pub returns-in_default-read : goal.returns-in_default-read
returns-in_default-read g c = both_read _ _ _ _ _ c.read.ensures.acts c.change.ensures

pub loop-turn-preserved : goal.loop-turn-preserved
loop-turn-preserved g c = elim c.match-branch-2.branch [
  | in-TooFew+in-Items w ↦ at_seat w.seat-is (both_read _ _ _ _ _ w.read.ensures.acts c.change.ensures)
  | in_default w ↦ at_seat w.seat-is c.change.ensures
]
