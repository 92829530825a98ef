use Rattle.std.proofs.Common.{◌≡◌, length}
use Rattle.tests_core.proofs.scripts.deposits.Given as goal

abbrev pub invariant-loop-deposit : goal.invariant-loop-deposit
invariant-loop-deposit l = length l.script.items ≡ l._deposit
