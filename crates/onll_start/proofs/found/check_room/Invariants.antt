use Rattle.std.proofs.Common.{◌≡◌, drop, map, length}
use Rattle.onll_start.specs.Start.{too_many}
use Rattle.onll_start.proofs.found.check_room.Given as goal

-- no thread so far has too many updates
abbrev pub invariant-loop-thread : goal.invariant-loop-thread
invariant-loop-thread g l = too_many (length l.scripts) l.nodes l.thread (drop l.thread l.logs) (map (λ script. script.items) (drop l.thread l.scripts))
    ≡ too_many (length l.scripts) l.nodes 0 l.logs (map (λ script. script.items) l.scripts)
