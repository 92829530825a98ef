use Rattle.std.proofs.Common.{◌≡◌, take}
use Rattle.std.specs.Vec.{vec_capacity}
use Rattle.onll_pmem.specs.Pmem.{words_of, EightWords}
use Rattle.onll_pmem.proofs.front.copied.Given as goal

-- the lines passed are copied
abbrev pub invariant-loop-i : goal.invariant-loop-i
invariant-loop-i l = record {
  same : words_of l.copy.items ≡ take l.i (words_of l.lines);
  eight : EightWords (words_of l.copy.items);
  room_for : vec_capacity l.copy ≡ l.room;
}
