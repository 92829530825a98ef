use Rattle.std.proofs.Common.{◌≡◌, ◌+◌, ◌-◌, ◌≤◌, ◌++◌, length}
use Rattle.std.specs.Vec.{vec_capacity}
use Rattle.onll_pmem.specs.Device.{zero_lines}
use Rattle.onll_pmem.specs.Pmem.{words_of}
use Rattle.onll_pmem.proofs.front.fill.Given as goal

abbrev pub invariant-loop-front : goal.invariant-loop-front
invariant-loop-front l = record {
  words : words_of l.front.items ≡ words_of l.initial.front.items ++ zero_lines (length l.front.items - length l.initial.front.items);
  long : length l.initial.front.items ≤ length l.front.items;
  short : length l.front.items ≤ l.line + 1;
  capacity : vec_capacity l.front ≡ vec_capacity l.initial.front;
}

abbrev pub decreases-loop-front : goal.decreases-loop-front
decreases-loop-front l = l.line + 1 - length l.front.items
