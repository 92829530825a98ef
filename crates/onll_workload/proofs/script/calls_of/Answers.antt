use Rattle.std.proofs.Common.{arith}
use Rattle.onll_workload.proofs.Making.{more_calls, calls_end}
use Rattle.onll_workload.specs.Workload.{calls_from}
use Rattle.onll_workload.proofs.script.calls_of.Goals as goal

pub loop-made-preserved : goal.loop-made-preserved
loop-made-preserved c =
    more_calls c.args.updates c.loop-made.made c.loop-made.draws.x c.push_update.new.draws.x c.loop-made.calls.items c.push_update.new.calls.items (calls_from c.args.updates 0 c.args.x)
    c.loop-made-test.true c.push_update.ensures.next c.in_ok-push_update.ensures.calls c.loop-made.invariant

pub returns : goal.returns
returns c =
    calls_end c.args.updates c.loop-made.made c.loop-made.draws.x c.loop-made.calls.items (calls_from c.args.updates 0 c.args.x) (omega arith) c.loop-made.invariant
