use Rattle.std.proofs.Common.{◌≡◌, ◌+◌, ◌-◌, ◌≤◌, length, replicate}
use Rattle.onll_core.specs.Step.{steps_of}
use Rattle.onll_core.proofs.step_core.Core.run.Given as goal

-- what is left to do leads where all does
abbrev pub invariant-loop-i : goal.invariant-loop-i
invariant-loop-i g l = record {
  steps : steps_of g.O.Object.means l.self (replicate (l.count - l.i) l.thread) ≡ steps_of g.O.Object.means l.fn.self (replicate l.count l.thread);
  clock : l.self.clock ≤ l.fn.self.clock + l.i;
  threads : length l.self.threads ≡ length l.fn.self.threads;
}
