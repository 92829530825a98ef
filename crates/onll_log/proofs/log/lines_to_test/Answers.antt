use Rattle.onll_log.proofs.Writing.{line_at-behind}
use Rattle.onll_log.proofs.log.lines_to_test.Goals as goal

pub returns-in-Some-clause-zeros : goal.returns-in-Some-clause-zeros
returns-in-Some-clause-zeros g c = λ line behind within. line_at-behind (g.P.Pmem.means c.args.device.now).read c.in-Some.front.now line c.in-Some.ensures.zeros behind within
