use Rattle.std.proofs.Common.{◌≡◌, ◌-◌, ◌≤◌, length}
use Rattle.std.specs.Vec.{vec_capacity}
use Rattle.onll_pmem.specs.Pmem.{words_of}
use Rattle.onll_outside.specs.Views.{with_zeros}
use Rattle.onll_outside.proofs.gather.put_zeros.Given as goal

-- only zeros were appended
abbrev pub invariant-loop-lines : goal.invariant-loop-lines
invariant-loop-lines l = record {
  words : words_of l.lines.items ≡ with_zeros (words_of l.initial.lines.items) (length l.lines.items);
  long : length l.initial.lines.items ≤ length l.lines.items;
  short : length l.lines.items ≤ l.count;
  capacity : vec_capacity l.lines ≡ vec_capacity l.initial.lines;
}

abbrev pub decreases-loop-lines : goal.decreases-loop-lines
decreases-loop-lines l = l.count - length l.lines.items
