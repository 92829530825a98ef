use Rattle.std.proofs.Common.{◌≡◌, ◌+◌, ◌-◌, ◌≤◌, ◌++◌, false, length, replicate}
use Rattle.std.specs.Vec.{vec_capacity}
use Rattle.onll_pmem.proofs.marks.fill.Given as goal

abbrev pub invariant-loop-front : goal.invariant-loop-front
invariant-loop-front l = record {
  marks : l.front.items ≡ l.initial.front.items ++ replicate (length l.front.items - length l.initial.front.items) false;
  long : length l.initial.front.items ≤ length l.front.items;
  short : length l.front.items ≤ l.mark + 1;
  capacity : vec_capacity l.front ≡ vec_capacity l.initial.front;
}

abbrev pub decreases-loop-front : goal.decreases-loop-front
decreases-loop-front l = l.mark + 1 - length l.front.items
