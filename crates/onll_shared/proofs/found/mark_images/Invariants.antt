use Rattle.std.proofs.Common.{◌≡◌, ◌++◌, drop, map}
use Rattle.onll_shared.specs.Found.{image_entries, marks_from}
use Rattle.onll_shared.proofs.found.mark_images.Given as goal

abbrev pub invariant-loop-thread : goal.invariant-loop-thread
invariant-loop-thread l = l.marks.items ++ marks_from l.thread (drop l.thread (map image_entries l.images)) ≡ marks_from 0 (map image_entries l.images)
