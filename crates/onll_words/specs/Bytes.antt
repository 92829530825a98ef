use Rattle.std.specs.Prelude.{ℕ, zero, suc, List, [], ◌∷◌, drop}
use Rattle.std.specs.List.{flat_map}
use Rattle.std.specs.Int.{w64, to_le_bytes, from_le_bytes, to_be_bytes, from_be_bytes}

-- Words of 64 bits as bytes, eight each.

-- the first n words that stand in bytes, where `word` reads the first of them
unfoldable pub words_in : (List ℕ → ℕ) → ℕ → List ℕ → List ℕ
words_in word zero bytes = []
words_in word (suc n) bytes = word bytes ∷ words_in word n (drop 8 bytes)

-- the first word in bytes, the lowest byte first, and the highest
abbrev pub low_word : List ℕ → ℕ
low_word bytes = from_le_bytes w64 bytes

abbrev pub high_word : List ℕ → ℕ
high_word bytes = from_be_bytes w64 bytes

-- the bytes of words, the lowest byte of each first, and the highest
abbrev pub low_bytes : List ℕ → List ℕ
low_bytes words = flat_map (to_le_bytes w64) words

abbrev pub high_bytes : List ℕ → List ℕ
high_bytes words = flat_map (to_be_bytes w64) words
