use Rattle.std.proofs.Common.{length, ◌-◌}
use Rattle.onll_log.proofs.Decoding.{Read}
use Rattle.onll_log.proofs.image.entries_of.Given as goal

abbrev pub invariant-loop-at : goal.invariant-loop-at
invariant-loop-at l = Read l.head l.lines l.entries.items l.at

abbrev pub decreases-loop-at : goal.decreases-loop-at
decreases-loop-at l = length l.lines - l.at
