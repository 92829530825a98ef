use Rattle.std.proofs.Common.{ℕ, List, ◌≡◌, ◌^◌, ◌<◌, length, slice_index, ap, sym, ◌∙◌}
use Rattle.onll_words.specs.Bytes.{words_in, low_word}
use Rattle.onll_words.specs.Lines.{bytes_of_words, words_of_bytes}
use Rattle.onll_words.proofs.WordBytes.{low_first, words_in-flat_map, flat_map-words_in}

-- the words of a line's bytes are those of the line
pub words_of_bytes-bytes_of_words : (words : List ℕ) → length words ≡ 8 → ((i : ℕ) → slice_index words i < 2 ^ 64)
    → words_of_bytes (bytes_of_words words) ≡ words
words_of_bytes-bytes_of_words words len h =
    ap (λ n. words_in low_word n (bytes_of_words words)) (sym len) ∙ words_in-flat_map low_first words h

-- the bytes of the words in 64 bytes are those bytes
pub bytes_of_words-words_of_bytes : (bytes : List ℕ) → length bytes ≡ 64 → ((i : ℕ) → slice_index bytes i < 256)
    → bytes_of_words (words_of_bytes bytes) ≡ bytes
bytes_of_words-words_of_bytes bytes len h = flat_map-words_in low_first 8 bytes len h
