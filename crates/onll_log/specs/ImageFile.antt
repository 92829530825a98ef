use Rattle.std.specs.Prelude.{ℕ, ◌/◌, List, length, map, take}
use Rattle.std.specs.Simd.{first_chunks}
use Rattle.onll_words.specs.Lines.{words_of_bytes}

-- The file of a log's image is its lines in order.

-- how many bytes of it are read at most: the greatest log's
abbrev pub longest_image : ℕ
longest_image = 4456512

-- the lines of bytes; bytes after the last whole line are ignored
abbrev pub whole_lines : List ℕ → List (List ℕ)
whole_lines bytes = map words_of_bytes (first_chunks 64 (length bytes / 64) bytes)

-- the lines of an image file
abbrev pub image_lines : List ℕ → List (List ℕ)
image_lines bytes = whole_lines (take longest_image bytes)
