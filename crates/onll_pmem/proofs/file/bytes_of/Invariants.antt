use Rattle.std.proofs.Common.{◌≡◌, take}
use Rattle.onll_pmem.specs.Pmem.{words_of}
use Rattle.onll_pmem.specs.File.{words_in_file}
use Rattle.onll_pmem.proofs.file.bytes_of.Given as goal

-- the lines passed are laid out
abbrev pub invariant-loop-i : goal.invariant-loop-i
invariant-loop-i l = words_in_file l.bytes.items ≡ take l.i (words_of l.lines)
