use Rattle.std.proofs.Common.{◌≡◌, ◌+◌, ◌-◌, ◌≤◌, [], List, length, take}
use Rattle.onll_log.specs.declared.head.LogHead.{LogHead}
use Rattle.onll_standby.specs.Standby.{IsFed}
use Rattle.onll_shipping.proofs.follow.feed_all.Given as goal

-- the bytes up to here were taken, and show no fault
abbrev pub invariant-loop-at : goal.invariant-loop-at
invariant-loop-at g l = record {
  within : l.at ≤ length l.bytes;
  taken : l.standby.taken ≡ l.fn.standby.taken + l.at;
  fed : (start : _) (heads : List LogHead) → IsFed g.O.Object.means start heads [] l.fn.standby → IsFed g.O.Object.means start heads (take l.at l.bytes) l.standby;
}

abbrev pub decreases-loop-at : goal.decreases-loop-at
decreases-loop-at g l = length l.bytes - l.at
