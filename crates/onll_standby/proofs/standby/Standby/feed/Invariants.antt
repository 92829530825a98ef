use Rattle.std.proofs.Common.{◌≡◌, ℕ, ◌+◌, ◌-◌, ◌≤◌, ◌++◌, List, length, take, None}
use Rattle.onll_log.specs.declared.head.LogHead.{LogHead}
use Rattle.onll_standby.specs.Standby.{IsFed}
use Rattle.onll_standby.proofs.standby.Standby.feed.Given as goal

abbrev pub invariant-loop-at : goal.invariant-loop-at
invariant-loop-at g l = record {
  within : l.at ≤ length l.piece;
  clean : l.self.follower.fault ≡ None;
  taken : l.self.taken ≡ l.fn.self.taken + l.at;
  fed : (start : _) (heads : List LogHead) (bytes : List ℕ) → IsFed g.O.Object.means start heads bytes l.fn.self → IsFed g.O.Object.means start heads (bytes ++ take l.at l.piece) l.self;
}

abbrev pub decreases-loop-at : goal.decreases-loop-at
decreases-loop-at g l = length l.piece - l.at
