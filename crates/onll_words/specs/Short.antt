use Rattle.std.specs.Prelude.{ℕ, Bool, true, false, List, [], ◌∷◌, ◌++◌, ◌≡◌, ◌-◌, ◌&&◌, Option, Some, None, if◌then◌else◌, unwrap_or, length, take, slice_index, replicate, nat_le, refl}
use Rattle.std.specs.List.{list_all}
use Rattle.std.specs.Str.{bytes_eq}
use Rattle.std.specs.Coded.{Coded, Coded-set, coded_bool, coded_list, coded_ℕ, code_by}
use Rattle.std.proofs.Common.{ap, ◌∙◌}
use Rattle.onll_words.specs.Bytes.{words_in, high_word, high_bytes}

-- A short text has 1 to 23 bytes, each from 0x21 to 0x7E. Packed it is 24 bytes: the text, then zeros, and its
-- length in the last one. These are three words, the highest byte of each first.

abbrev pub is_text_byte : ℕ → Bool
is_text_byte b = nat_le 0x21 b && nat_le b 0x7E

abbrev pub is_short : List ℕ → Bool
is_short bytes = nat_le 1 (length bytes) && nat_le (length bytes) 23 && list_all is_text_byte bytes

abbrev pub IsShort : List ℕ → Type 0
IsShort bytes = is_short bytes ≡ true

-- a short text: two are equal where their bytes are
pub record ShortText : Type 0 where
  pub bytes : List ℕ
  pub short : is_short bytes ≡ true

-- the short text of these bytes, where the test says that they are one
abbrev pub short_if : (b : Bool) (bytes : List ℕ) → is_short bytes ≡ b → Option ShortText
short_if true bytes h = Some (record { bytes = bytes; short = h })
short_if false bytes h = None

-- the short text of these bytes, where they are one
abbrev pub short_of : List ℕ → Option ShortText
short_of bytes = short_if (is_short bytes) bytes refl

-- the same, where the bytes are known to be one
abbrev pub short_at : List ℕ → ShortText
short_at bytes = unwrap_or (short_of bytes) (record { bytes = 0x21 ∷ []; short = refl })

-- the proof of the test makes no difference
short_if-true : (b : Bool) (bytes : List ℕ) (e : is_short bytes ≡ b) (h : is_short bytes ≡ true) → b ≡ true
    → short_if b bytes e ≡ Some (record { bytes = bytes; short = h })
short_if-true true bytes e h t = ap (λ p. Some (record { bytes = bytes; short = p })) (Coded-set coded_bool (is_short bytes) true e h)
short_if-true false bytes e h t = cc

pub short_of-bytes : (text : ShortText) → short_of text.bytes ≡ Some text
short_of-bytes text = short_if-true (is_short text.bytes) text.bytes refl text.short text.short

pub short_at-bytes : (text : ShortText) → short_at text.bytes ≡ text
short_at-bytes text = ap (λ o. unwrap_or o (record { bytes = 0x21 ∷ []; short = refl })) (short_of-bytes text)

abbrev pub short_code : Coded ShortText
short_code = code_by (List ℕ) (coded_list coded_ℕ) (λ text. text.bytes) short_at short_at-bytes

-- the 24 bytes of a packed text
unfoldable pub padded : List ℕ → List ℕ
padded bytes = bytes ++ replicate (23 - length bytes) 0 ++ length bytes ∷ []

-- its three words
unfoldable pub packed : List ℕ → List ℕ
packed bytes = words_in high_word 3 (padded bytes)

-- as many bytes at the front of words as the last byte says
unfoldable pub bytes_in : List ℕ → List ℕ
bytes_in words = take (slice_index (high_bytes words) 23) (high_bytes words)

-- the text of which these words are the packing, where there is one
unfoldable pub unpacked : List ℕ → Option ShortText
unpacked words = if bytes_eq (packed (bytes_in words)) words then short_of (bytes_in words) else None

-- a packing is the packing of its text
pub packed-bytes_in : (words : List ℕ) → IsShort (bytes_in words) → packed (bytes_in words) ≡ words
    → packed (short_at (bytes_in words)).bytes ≡ words
packed-bytes_in words h e = ap (λ text. packed text.bytes) (short_at-bytes (record { bytes = bytes_in words; short = h })) ∙ e
