use Rattle.std.proofs.Common.{◌+◌, ◌*◌, ◌≤◌, ◌<◌, length}
use Rattle.onll_pmem.specs.Pmem.{words_of}
use Rattle.onll_outside.specs.LineFiles.{IsGathered}
use Rattle.onll_outside.proofs.disk.read_parts.Given as goal

-- no more lines were read than there are bytes for
abbrev pub invariant-loop-left : goal.invariant-loop-left
invariant-loop-left g l = record {
  gathered : IsGathered (words_of l.lines.front.items) l.lines.count;
  few : 64 * l.lines.count + l.left ≤ 64 * l.initial.lines.count + l.limit;
  room : 0 < length l.buffer;
}

abbrev pub decreases-loop-left : goal.decreases-loop-left
decreases-loop-left g l = l.left
