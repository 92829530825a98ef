use Rattle.std.proofs.Common.{◌≡◌, ◌≤◌, ◌*◌, length}
use Rattle.onll_pmem.specs.Pmem.{words_of}
use Rattle.onll_pmem.proofs.Images.{KeptLines}
use Rattle.onll_pmem.proofs.image.kept_front.Given as goal

abbrev pub invariant-loop-i : goal.invariant-loop-i
invariant-loop-i l = record {
  so_far : KeptLines l.keep l.number l.i l.fenced l.read (words_of l.front.items);
  done : length l.front.items ≡ l.i;
  few : l.number ≤ 8 * l.i;
}
