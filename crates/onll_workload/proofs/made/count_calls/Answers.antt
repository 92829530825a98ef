use Rattle.std.proofs.Common.{arith}
use Rattle.onll_workload.proofs.Scripts.{calls_split}
use Rattle.onll_workload.proofs.made.count_calls.Goals as goal

pub overflow_sub-result : goal.overflow_sub-result
overflow_sub-result c = let split = calls_split c.args.calls.now in let updates = c.count_updates-updates.ensures in omega (arith, split, updates)

pub returns-clause-reads : goal.returns-clause-reads
returns-clause-reads c = let split = calls_split c.args.calls.now in let updates = c.count_updates-updates.ensures in omega (arith, split, updates)
