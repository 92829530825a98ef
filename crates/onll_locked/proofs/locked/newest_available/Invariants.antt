use Rattle.std.proofs.Common.{◌≡◌, ℕ, ◌<◌, ◌≤◌, false, length}
use Rattle.onll_model.specs.Frames.{is_available}
use Rattle.onll_locked.proofs.locked.newest_available.Given as goal

abbrev pub invariant-loop-place : goal.invariant-loop-place
invariant-loop-place l = (l.place ≤ length l.flags) × ((q : ℕ) → l.place < q → is_available l.flags q ≡ false)

abbrev pub decreases-loop-place : goal.decreases-loop-place
decreases-loop-place l = l.place
