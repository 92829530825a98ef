use Rattle.std.proofs.Common.{◌≡◌, ◌+◌, ◌++◌, length, drop, map}
use Rattle.std.specs.Vec.{vec_capacity}
use Rattle.std.specs.Vec.Iter.{into_iter_items}
use Rattle.onll_pmem.specs.Pmem.{words_of}
use Rattle.onll_core.specs.Found.{found_threads, HaveLogRoom}
use Rattle.onll_core.proofs.step_core.resume.found_workers.Given as goal

-- the threads that are made, and those of the scripts that are left
abbrev pub invariant-loop-script : goal.invariant-loop-script
invariant-loop-script g l =
    let left = map (λ script. script.items) (into_iter_items l.script-iterator) in
    let images = map (λ image. words_of image.items) l.images in record {
      all : l.workers.items ++ found_threads (drop l.thread l.heads) (drop l.thread images) (drop l.thread l.logs) left
          ≡ found_threads l.heads images l.logs (map (λ script. script.items) l.fn.scripts.items);
      roomy : HaveLogRoom (drop l.thread l.heads) (drop l.thread images) (drop l.thread l.logs) left;
      count : l.thread + length (into_iter_items l.script-iterator) ≡ length l.fn.scripts.items;
      made : length l.workers.items ≡ l.thread;
      room : vec_capacity l.workers ≡ length l.fn.scripts.items;
    }
