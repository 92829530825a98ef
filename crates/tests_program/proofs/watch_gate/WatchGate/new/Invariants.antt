use Rattle.std.proofs.Common.{◌-◌, ◌≤◌, length}
use Rattle.tests_program.proofs.watch_gate.WatchGate.new.Given as goal

abbrev pub invariant-loop-answered : goal.invariant-loop-answered
invariant-loop-answered l = length l.answered.items ≤ 6

abbrev pub decreases-loop-answered : goal.decreases-loop-answered
decreases-loop-answered l = 6 - length l.answered.items
