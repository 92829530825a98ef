use Rattle.onll_keeps.proofs.Tallying.{tallied_read}
use Rattle.onll_meter.proofs.clerk.total_at.Goals as goal

pub returns-in-Counted : goal.returns-in-Counted
returns-in-Counted g c n counted = tallied_read c.read.ensures.acts counted

pub returns-in-AtItsEnd : goal.returns-in-AtItsEnd
returns-in-AtItsEnd g c n counted = tallied_read c.read.ensures.acts counted
