use Rattle.std.proofs.Common.{List, ℕ, ◌++◌, take}
use Rattle.std.specs.List.{flat_map}
use Rattle.onll_words.specs.Lines.{bytes_of_words}
use Rattle.onll_pmem.specs.Pmem.{words_of}
use Rattle.onll_log.specs.Digest.{IsMessage}
use Rattle.onll_log.proofs.digest.Message.add_lines.Given as goal

abbrev pub invariant-loop-line : goal.invariant-loop-line
invariant-loop-line l = (m : List ℕ) → IsMessage l.initial.self m → IsMessage l.self (m ++ flat_map bytes_of_words (words_of (take l.line-index l.lines)))
