use Rattle.std.proofs.Common.{◌≡◌, ◌+◌, ◌++◌, length}
use Rattle.std.specs.Prelude.{map}
use Rattle.std.specs.Vec.{vec_capacity}
use Rattle.std.specs.Vec.Iter.{into_iter_items}
use Rattle.onll_locked.specs.Locked.{first_thread}
use Rattle.onll_locked.proofs.locked.first_threads.Given as goal

-- the threads that are made, and those of the scripts that are left
abbrev pub invariant-loop-script : goal.invariant-loop-script
invariant-loop-script g l = let left = into_iter_items l.script-iterator in record {
  all : l.threads.items ++ map first_thread (map (λ script. script.items) left) ≡ map first_thread (map (λ script. script.items) l.fn.scripts.items);
  room : length l.threads.items + length left ≡ vec_capacity l.threads;
}
