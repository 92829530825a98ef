use Rattle.std.proofs.Common.{length, ◌-◌}
use Rattle.onll_merge.specs.Passed.{ArePassed}
use Rattle.onll_merge.proofs.entries.first_from.Given as goal

abbrev pub invariant-loop-at : goal.invariant-loop-at
invariant-loop-at l = ArePassed l.entries l.at l.place

abbrev pub decreases-loop-at : goal.decreases-loop-at
decreases-loop-at l = length l.entries - l.at
