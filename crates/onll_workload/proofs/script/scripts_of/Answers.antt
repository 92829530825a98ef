use Rattle.onll_workload.proofs.Making.{more_scripts}
use Rattle.onll_workload.proofs.script.scripts_of.Goals as goal

pub loop-thread-preserved : goal.loop-thread-preserved
loop-thread-preserved c =
    more_scripts (λ script. script.items) c.args.workload c.loop-thread.thread c.loop-thread.scripts.items c.push.new.self.items c.in_ok-script_of.field-0
    c.loop-thread-test.true c.in_ok-push.ensures.items c.in_ok-script_of.ensures c.loop-thread.invariant
