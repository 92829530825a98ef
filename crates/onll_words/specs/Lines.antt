use Rattle.std.specs.Prelude.{ℕ, List}
use Rattle.onll_words.specs.Bytes.{words_in, low_word, low_bytes}

-- The bytes of a line are those of its eight words in order, the lowest byte of each first.

-- the bytes of a line's words
abbrev pub bytes_of_words : List ℕ → List ℕ
bytes_of_words words = low_bytes words

-- the words of a line's bytes
abbrev pub words_of_bytes : List ℕ → List ℕ
words_of_bytes bytes = words_in low_word 8 bytes
