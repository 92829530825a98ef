use Rattle.std.specs.Prelude.{◌≡◌, ◌+◌}
use Rattle.onll_meter.specs.Counting.{HasCounted}
use Rattle.onll_meter.proofs.clerk.Clerk.count_all.Given as goal

abbrev pub invariant-loop-counted : goal.invariant-loop-counted
invariant-loop-counted g l =
    HasCounted g.P.Pmem.means g.B.Begun.first l.counted l.seat × (l.counted + l.self.left ≡ l.left) × (l.left ≡ l.initial.self.left)
