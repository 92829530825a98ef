use Rattle.std.proofs.Common.{◌≡◌, drop, true}
use Rattle.onll_text.specs.Bytes.{begins_line, with_lines, IsFront}
use Rattle.onll_text.specs.LeaseText.{held_lines}
use Rattle.onll_text.proofs.lease.put_table.Given as goal

-- the resources that are left make the lines that all make
abbrev pub invariant-loop-r : goal.invariant-loop-r
invariant-loop-r l = record {
  lines : with_lines l.out (held_lines l.r (drop l.r l.lease)) ≡ with_lines l.fn.out (held_lines 0 l.lease);
  begins : begins_line l.out ≡ true;
  keeps : IsFront l.fn.out l.out;
}
