use Rattle.std.proofs.Common.{◌≡◌, ◌++◌, length}
use Rattle.std.specs.Prelude.{reverse}
use Rattle.onll_merge.proofs.second_pass.readers_of.Given as goal

-- the cursors that are left and the readers so far are all of them
abbrev pub invariant-loop-cursor : goal.invariant-loop-cursor
invariant-loop-cursor l = l.cursors.items ++ reverse l.readers.items ≡ l.initial.cursors.items

abbrev pub decreases-loop-cursor : goal.decreases-loop-cursor
decreases-loop-cursor l = length l.cursors.items
