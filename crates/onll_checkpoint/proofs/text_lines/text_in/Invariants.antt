use Rattle.std.proofs.Common.{◌≡◌, take}
use Rattle.std.specs.List.{flat_map}
use Rattle.onll_words.specs.Lines.{bytes_of_words}
use Rattle.onll_pmem.specs.Pmem.{words_of}
use Rattle.onll_checkpoint.proofs.text_lines.text_in.Given as goal

-- the bytes of the lines passed
abbrev pub invariant-loop-line : goal.invariant-loop-line
invariant-loop-line l = l.text.items ≡ flat_map bytes_of_words (words_of (take l.line-index l.lines))
