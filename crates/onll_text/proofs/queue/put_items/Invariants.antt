use Rattle.std.proofs.Common.{◌≡◌, drop, true}
use Rattle.onll_text.specs.Bytes.{begins_line, with_lines, IsFront}
use Rattle.onll_text.specs.QueueText.{item_lines}
use Rattle.onll_text.proofs.queue.put_items.Given as goal

-- the items that are left make the lines that all make
abbrev pub invariant-loop-i : goal.invariant-loop-i
invariant-loop-i l = record {
  lines : with_lines l.out (item_lines (drop l.i l.queue.items)) ≡ with_lines l.fn.out (item_lines l.queue.items);
  begins : begins_line l.out ≡ true;
  keeps : IsFront l.fn.out l.out;
}
