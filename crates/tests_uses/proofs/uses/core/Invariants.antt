use Rattle.std.proofs.Common.{◌≤◌, length, pos, ◌≤ℤ◌}
use Rattle.tests_uses.proofs.uses.core.Given as goal

abbrev pub invariant-loop-step : goal.invariant-loop-step
invariant-loop-step g l = (1 ≤ length l.core.threads) × (pos l.core.clock ≤ℤ l._step)
