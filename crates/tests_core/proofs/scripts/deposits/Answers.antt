use Rattle.std.proofs.Common.{arith}
use Rattle.tests_core.proofs.Updates.{updates_low}
use Rattle.tests_core.proofs.scripts.deposits.Goals as goal

pub returns : goal.returns
returns c = let low = updates_low c.loop-deposit.script.items in let e = c.loop-deposit.invariant in let n = c.requires in omega arith
