use Rattle.std.proofs.Common.{◌-◌, ◌≤◌, length}
use Rattle.onll_outside.proofs.hold_gate.HoldGate.new.Given as goal

abbrev pub invariant-loop-marks : goal.invariant-loop-marks
invariant-loop-marks l = length l.marks.items ≤ 80

abbrev pub decreases-loop-marks : goal.decreases-loop-marks
decreases-loop-marks l = 80 - length l.marks.items
