-- What words and lines make of the bytes before them.

use Rattle.std.specs.Prelude.{ℕ, Bool, List, [], ◌∷◌, ◌++◌, ◌-◌, ◌||◌, ◌==◌, if◌then◌else◌, length, slice_index}
use Rattle.std.specs.List.{flat_map}
use Rattle.std.specs.Io.{StartsWith}
use Rattle.onll_words.specs.Texts.{line_text}

-- nothing stands in the last line yet
abbrev pub begins_line : List ℕ → Bool
begins_line bytes = (length bytes == 0) || (slice_index bytes (length bytes - 1) == 10)

-- a word more, after one space unless it begins a line
abbrev pub with_word : List ℕ → List ℕ → List ℕ
with_word bytes word = bytes ++ ((if begins_line bytes then [] else 32 ∷ []) ++ word)

abbrev pub with_words : List ℕ → List (List ℕ) → List ℕ
with_words bytes [] = bytes
with_words bytes (w ∷ ws) = with_words (with_word bytes w) ws

-- these bytes begin those: each front of these is one of those. Where the old bytes begin the new ones, and the new ones begin the
-- old ones with a piece, the new ones are the old ones and a front of the piece.
abbrev pub IsFront : List ℕ → List ℕ → Type 0
IsFront bytes whole = (front : List ℕ) → StartsWith bytes front → StartsWith whole front

-- the bytes after whole lines
abbrev pub with_lines : List ℕ → List (List (List ℕ)) → List ℕ
with_lines bytes lines = bytes ++ flat_map line_text lines
