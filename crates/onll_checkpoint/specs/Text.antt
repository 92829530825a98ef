-- A text as lines: its bytes in order, and zeros up to the end of the last line.
use Rattle.std.specs.Prelude.{ℕ, ◌+◌, ◌-◌, ◌*◌, ◌/◌, List, ◌++◌, length, map, replicate, take}
use Rattle.std.specs.List.{flat_map}
use Rattle.std.specs.Simd.{first_chunks}
use Rattle.onll_words.specs.Lines.{words_of_bytes, bytes_of_words}

-- how many lines a text of this many bytes takes
abbrev pub lines_of_text : ℕ → ℕ
lines_of_text bytes = (bytes + 63) / 64

-- how many lines a checkpoint with such a text takes
abbrev pub lines_for : ℕ → ℕ
lines_for bytes = 1 + lines_of_text bytes

-- a text, and zeros up to whole lines
abbrev pub filled_text : List ℕ → List ℕ
filled_text text = text ++ replicate (64 * lines_of_text (length text) - length text) 0

abbrev pub text_lines : List ℕ → List (List ℕ)
text_lines text = map words_of_bytes (first_chunks 64 (lines_of_text (length text)) (filled_text text))

-- the text of this many bytes that lines begin with
abbrev pub text_in : ℕ → List (List ℕ) → List ℕ
text_in bytes lines = take bytes (flat_map bytes_of_words (take (lines_of_text bytes) lines))
