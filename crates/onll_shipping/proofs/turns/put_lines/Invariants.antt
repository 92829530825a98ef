use Rattle.std.proofs.Common.{◌≡◌, ◌+◌, ◌*◌, ◌++◌, drop, length}
use Rattle.onll_pmem.specs.Pmem.{words_of}
use Rattle.onll_outside.specs.Views.{image_bytes}
use Rattle.onll_shipping.proofs.turns.put_lines.Given as goal

-- the lines that are left make the bytes that all make
abbrev pub invariant-loop-line : goal.invariant-loop-line
invariant-loop-line l = record {
  bytes : l.out.items ++ image_bytes (words_of (drop l.line-index l.lines)) ≡ l.fn.out.items ++ image_bytes (words_of l.lines);
  many : length l.out.items ≡ length l.fn.out.items + 64 * l.line-index;
}
