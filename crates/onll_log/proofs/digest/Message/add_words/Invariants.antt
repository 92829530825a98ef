use Rattle.std.proofs.Common.{List, ℕ, ◌++◌, take}
use Rattle.onll_words.specs.Lines.{bytes_of_words}
use Rattle.onll_log.specs.Digest.{IsMessage}
use Rattle.onll_log.proofs.digest.Message.add_words.Given as goal

abbrev pub invariant-loop-word : goal.invariant-loop-word
invariant-loop-word l = (m : List ℕ) → IsMessage l.initial.self m → IsMessage l.self (m ++ bytes_of_words (take l.word-index l.words))
