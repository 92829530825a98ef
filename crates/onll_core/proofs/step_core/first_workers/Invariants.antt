use Rattle.std.proofs.Common.{◌≡◌, ◌≤◌, ◌+◌, ◌++◌, length}
use Rattle.std.specs.Prelude.{map}
use Rattle.std.specs.List.{All}
use Rattle.std.specs.Vec.{vec_capacity}
use Rattle.std.specs.Vec.Iter.{into_iter_items}
use Rattle.onll_model.specs.Calls.{updates_in}
use Rattle.onll_core.specs.First.{first_threads}
use Rattle.onll_log.specs.Head.{heads_from}
use Rattle.onll_core.proofs.step_core.first_workers.Given as goal

-- the threads that are made, and those of the scripts that are left
abbrev pub invariant-loop-script : goal.invariant-loop-script
invariant-loop-script g l = let left = into_iter_items l.script-iterator in record {
  all : l.workers.items ++ first_threads (heads_from l.threads g.O.Object.CODE l.init l.thread (length left)) (map (λ script. script.items) left) ≡ first_threads (heads_from l.threads g.O.Object.CODE l.init 0 l.threads) (map (λ script. script.items) l.fn.scripts.items);
  count : l.thread + length left ≡ l.threads;
  made : length l.workers.items ≡ l.thread;
  room : vec_capacity l.workers ≡ l.threads;
  few : l.threads ≤ 16;
  updates : All (λ script. updates_in script.items ≤ 4096) left;
}
