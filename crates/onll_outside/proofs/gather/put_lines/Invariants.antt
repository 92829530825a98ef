use Rattle.std.proofs.Common.{◌≡◌, ◌+◌, ◌-◌, ◌≤◌, ◌++◌, length, map, take}
use Rattle.std.specs.List.{AllByRecursion}
use Rattle.std.specs.Vec.{vec_capacity}
use Rattle.onll_words.specs.Lines.{words_of_bytes}
use Rattle.onll_pmem.specs.Pmem.{words_of}
use Rattle.onll_outside.specs.LineFiles.{IsWholeLine}
use Rattle.onll_outside.proofs.gather.put_lines.Given as goal

-- the lines of the chunks so far were appended, and there is room for the others
abbrev pub invariant-loop-chunk : goal.invariant-loop-chunk
invariant-loop-chunk l = record {
  words : words_of l.lines.items ≡ words_of l.initial.lines.items ++ map words_of_bytes (take l.chunk-index l.chunks);
  whole : AllByRecursion IsWholeLine (words_of l.initial.lines.items) → AllByRecursion IsWholeLine (words_of l.lines.items);
  room : length l.lines.items + (length l.chunks - l.chunk-index) ≤ vec_capacity l.lines;
}
