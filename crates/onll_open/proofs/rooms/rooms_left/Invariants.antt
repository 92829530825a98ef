use Rattle.std.proofs.Common.{◌≡◌, ◌≤◌, ◌++◌, drop, length, vec_capacity}
use Rattle.onll_open.specs.Rooms.{rooms_left}
use Rattle.onll_open.proofs.rooms.rooms_left.Given as goal

-- the rooms so far and those of the threads that are left are those of all
abbrev pub invariant-loop-thread : goal.invariant-loop-thread
invariant-loop-thread l = record {
  all : l.rooms.items ++ rooms_left l.threads l.nodes l.thread (drop l.thread l.logs) ≡ rooms_left l.threads l.nodes 0 l.logs;
  count : length l.rooms.items ≡ l.thread;
  room : length l.logs ≤ vec_capacity l.rooms;
}
