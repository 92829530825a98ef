use Rattle.std.proofs.Common.{◌≡◌, drop, true}
use Rattle.onll_text.specs.Bytes.{begins_line, with_lines, IsFront}
use Rattle.onll_text.specs.MapText.{pair_lines}
use Rattle.onll_text.proofs.map.put_pairs.Given as goal

-- the pairs that are left make the lines that all make
abbrev pub invariant-loop-i : goal.invariant-loop-i
invariant-loop-i l = record {
  lines : with_lines l.out (pair_lines (drop l.i l.map.pairs)) ≡ with_lines l.fn.out (pair_lines l.map.pairs);
  begins : begins_line l.out ≡ true;
  keeps : IsFront l.fn.out l.out;
}
