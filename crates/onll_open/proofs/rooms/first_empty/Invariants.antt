use Rattle.std.proofs.Common.{◌≡◌, drop}
use Rattle.onll_open.specs.Rooms.{first_empty}
use Rattle.onll_open.proofs.rooms.first_empty.Given as goal

-- the threads that are left make what all make
abbrev pub invariant-loop-thread : goal.invariant-loop-thread
invariant-loop-thread l = first_empty l.thread (drop l.thread l.rooms) ≡ first_empty 0 l.rooms
