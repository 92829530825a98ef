use Rattle.std.proofs.Common.{◌+◌, ◌-◌, ◌∙◌, arith}
use Rattle.onll_core.proofs.Plays.{done_run, run_more}
use Rattle.onll_core.proofs.step_core.Core.run.Goals as goal

pub returns-in-Done-clause-steps : goal.returns-in-Done-clause-steps
returns-in-Done-clause-steps g c = done_run g.O.Object.means c.loop-i.self c.step.new.self c.args.thread (c.args.count - c.loop-i.i) c.step.result c.step.ensures.step c.step.ensures.done c.in-Done.is ∙ c.loop-i.invariant.steps

pub loop-i-preserved : goal.loop-i-preserved
loop-i-preserved g c = let test = c.loop-i-test.true in record {
  steps = run_more g.O.Object.means c.loop-i.self c.step.new.self c.args.thread (c.args.count - c.loop-i.i) (c.args.count - (c.loop-i.i + 1)) c.step.ensures.step (omega arith) ∙ c.loop-i.invariant.steps;
  clock = (let a = c.step.ensures.clock in let b = c.loop-i.invariant.clock in omega arith);
  threads = c.step.ensures.threads ∙ c.loop-i.invariant.threads;
}
