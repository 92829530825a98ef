use Rattle.std.proofs.Common.{◌≡◌, ◌++◌, drop}
use Rattle.onll_pmem.specs.Pmem.{words_of}
use Rattle.onll_outside.specs.Views.{image_bytes}
use Rattle.onll_outside.proofs.bytes.image_bytes.Given as goal

-- the lines that are left make the bytes that all make
abbrev pub invariant-loop-line : goal.invariant-loop-line
invariant-loop-line l = l.bytes.items ++ image_bytes (words_of (drop l.line-index l.lines)) ≡ image_bytes (words_of l.lines)
