use Rattle.std.proofs.Common.{ℕ, zero, suc, Bool, true, false, List, [], ◌∷◌, ◌++◌, ◌≡◌, ◌≢◌, ◌+◌, ◌-◌, ◌^◌, ◌<◌, ◌≤◌, Option, Some, None, MatchOption, unwrap_or, length, take, drop, set, replicate, get_or, slice_index, nat_le, cond, refl, ap, sym, ◌∙◌, append_assoc, arith, ◌&&◌}
use Rattle.std.specs.List.{list_all}
use Rattle.std.specs.Str.{bytes_eq}
use Rattle.std.specs.Cmp.Lexicographic.{same_text}
use Rattle.std.proofs.lemmas.Cmp.{nat_list_eq_equiv}
use Rattle.std.proofs.lemmas.Bool.{and_parts, leb-true}
use Rattle.std.proofs.lemmas.List.{length-append, length-replicate, drop-replicate, set-append_right, take_at, get_or_at, get_or_append_left}
use Rattle.std.proofs.lemmas.List.Sums.{AllPass-from_list_all}
use Rattle.onll_words.specs.Bytes.{words_in, high_word, high_bytes}
use Rattle.onll_words.specs.Short.{is_text_byte, is_short, IsShort, ShortText, short_if, short_of, short_of-bytes, short_at, short_at-bytes, padded, packed, bytes_in, unpacked}
use Rattle.byteorder.specs.Numbers.{big_from-lt}
use Rattle.onll_words.proofs.WordBytes.{Bytes, dropped, high_first, high_word-big, flat_map-words_in, length-words_in}

-- what a short text is made of
pub record ShortParts (bytes : List ℕ) : Type 0 where
  pub some : 1 ≤ length bytes
  pub fits : length bytes ≤ 23
  pub text : list_all is_text_byte bytes ≡ true

pub parts : (bytes : List ℕ) → IsShort bytes → ShortParts bytes
parts bytes h =
    let outer = and_parts (nat_le 1 (length bytes) && nat_le (length bytes) 23) (list_all is_text_byte bytes) h in
    let inner = and_parts (nat_le 1 (length bytes)) (nat_le (length bytes) 23) outer.0 in
    record { some = leb-true 1 (length bytes) inner.0; fits = leb-true (length bytes) 23 inner.1; text = outer.1 }

text_range : (b : ℕ) → is_text_byte b ≡ true → (0x21 ≤ b) × (b ≤ 0x7E)
text_range b h =
    let e = and_parts (nat_le 0x21 b) (nat_le b 0x7E) h in (leb-true 0x21 b e.0, leb-true b 0x7E e.1)

pub text_byte : (bytes : List ℕ) → list_all is_text_byte bytes ≡ true → (i d : ℕ) → i < length bytes → (0x21 ≤ get_or bytes i d) × (get_or bytes i d ≤ 0x7E)
text_byte bytes h i d lt = text_range (get_or bytes i d) (AllPass-from_list_all is_text_byte bytes h i d lt)

-- the last of zeros written over
last_zero : (m y : ℕ) → set (replicate (m + 1) 0) m y ≡ replicate m 0 ++ y ∷ []
last_zero zero y = refl
last_zero (suc m) y = let e : suc m + 1 ≡ suc (m + 1) = omega arith in ap (λ n. set (replicate n 0) (suc m) y) e ∙ ap (λ t. 0 ∷ t) (last_zero m y)

-- a text written over zeros, and then its length
pub padded-written : (bytes : List ℕ) → length bytes ≤ 23 → set (bytes ++ drop (length bytes) (replicate 24 0)) 23 (length bytes) ≡ padded bytes
unfolding padded
padded-written bytes h =
    let n = length bytes in
    let e : 24 - n ≡ 23 - n + 1 = omega arith in
    ap (λ t. set (bytes ++ t) 23 n) (drop-replicate n 24 0 ∙ ap (λ m. replicate m 0) e)
    ∙ set-append_right bytes (replicate (23 - n + 1) 0) n 23 n refl h
    ∙ ap (λ t. bytes ++ t) (last_zero (23 - n) n)
    ∙ sym (append_assoc bytes (replicate (23 - n) 0) (n ∷ []))

pub length-padded : (bytes : List ℕ) → length bytes ≤ 23 → length (padded bytes) ≡ 24
unfolding padded
length-padded bytes h =
    let n = length bytes in
    omega (arith, length-append (bytes ++ replicate (23 - n) 0) (n ∷ []), length-append bytes (replicate (23 - n) 0), length-replicate {A = ℕ} (23 - n) 0)

pub take-padded : (bytes : List ℕ) → take (length bytes) (padded bytes) ≡ bytes
unfolding padded
take-padded bytes =
    let n = length bytes in
    ap (take n) (append_assoc bytes (replicate (23 - n) 0) (n ∷ [])) ∙ take_at bytes (replicate (23 - n) 0 ++ n ∷ []) n refl

pub slice_index-padded : (bytes : List ℕ) (i : ℕ) → i < length bytes → slice_index (padded bytes) i ≡ slice_index bytes i
unfolding padded
slice_index-padded bytes i lt =
    let n = length bytes in
    ap (λ xs. get_or xs i 0) (append_assoc bytes (replicate (23 - n) 0) (n ∷ [])) ∙ get_or_append_left bytes (replicate (23 - n) 0 ++ n ∷ []) 0 i lt

-- the last byte is the length
pub slice_index-padded_last : (bytes : List ℕ) → length bytes ≤ 23 → slice_index (padded bytes) 23 ≡ length bytes
unfolding padded
slice_index-padded_last bytes h =
    let n = length bytes in
    get_or_at (bytes ++ replicate (23 - n) 0) n [] 0 23 (omega (arith, length-append bytes (replicate (23 - n) 0), length-replicate {A = ℕ} (23 - n) 0))

zeros_are_bytes : (n : ℕ) → Bytes (replicate n 0)
zeros_are_bytes zero i = omega arith
zeros_are_bytes (suc n) zero = omega arith
zeros_are_bytes (suc n) (suc i) = zeros_are_bytes n i

append_bytes : (xs ys : List ℕ) → Bytes xs → Bytes ys → Bytes (xs ++ ys)
append_bytes [] ys g h i = h i
append_bytes (x ∷ xs) ys g h zero = g 0
append_bytes (x ∷ xs) ys g h (suc i) = append_bytes xs ys (λ j. g (suc j)) h i

one_byte : (n : ℕ) → n < 256 → Bytes (n ∷ [])
one_byte n h zero = h
one_byte n h (suc i) = omega arith

text_bytes : (bytes : List ℕ) → list_all is_text_byte bytes ≡ true → Bytes bytes
text_bytes [] h i = omega arith
text_bytes (b ∷ bs) h zero = omega (arith, (text_range b (and_parts (is_text_byte b) (list_all is_text_byte bs) h).0).1)
text_bytes (b ∷ bs) h (suc i) = text_bytes bs (and_parts (is_text_byte b) (list_all is_text_byte bs) h).1 i

pub padded_bytes : (bytes : List ℕ) → IsShort bytes → Bytes (padded bytes)
unfolding padded
padded_bytes bytes h =
    let p = parts bytes h in
    append_bytes (bytes ++ replicate (23 - length bytes) 0) (length bytes ∷ [])
    (append_bytes bytes (replicate (23 - length bytes) 0) (text_bytes bytes p.text) (zeros_are_bytes (23 - length bytes)))
    (one_byte (length bytes) (omega (arith, p.fits)))

-- the bytes of a packing
pub high_bytes-packed : (bytes : List ℕ) → IsShort bytes → high_bytes (packed bytes) ≡ padded bytes
unfolding packed
high_bytes-packed bytes h = flat_map-words_in high_first 3 (padded bytes) (length-padded bytes (parts bytes h).fits) (padded_bytes bytes h)

pub bytes_in-packed : (bytes : List ℕ) → IsShort bytes → bytes_in (packed bytes) ≡ bytes
unfolding bytes_in
bytes_in-packed bytes h =
    ap (λ xs. take (slice_index xs 23) xs) (high_bytes-packed bytes h)
    ∙ ap (λ n. take n (padded bytes)) (slice_index-padded_last bytes (parts bytes h).fits)
    ∙ take-padded bytes

same_bytes : (xs : List ℕ) → bytes_eq xs xs ≡ true
same_bytes xs = nat_list_eq_equiv.refl xs

-- the packing of a text is read as that text
pub unpacked-packed : (text : ShortText) → unpacked (packed text.bytes) ≡ Some text
unfolding unpacked
unpacked-packed text =
    let words = packed text.bytes in
    let same = bytes_in-packed text.bytes text.short in
    ap (λ bytes. cond (bytes_eq (packed bytes) words) (short_of bytes) None) same
    ∙ ap (λ b. cond b (short_of text.bytes) None) (same_bytes words)
    ∙ short_of-bytes text

text_of_some : (b : Bool) (bytes : List ℕ) (e : is_short bytes ≡ b) (text : ShortText) → short_if b bytes e ≡ Some text → text.bytes ≡ bytes
text_of_some true bytes e text h = sym (ap (λ o. (unwrap_or o text).bytes) h)
text_of_some false bytes e text h = cc

packed_where : (b : Bool) (words bytes : List ℕ) (text : ShortText) → b ≡ bytes_eq (packed bytes) words → cond b (short_of bytes) None ≡ Some text
    → packed text.bytes ≡ words
packed_where true words bytes text e h = ap packed (text_of_some (is_short bytes) bytes refl text h) ∙ same_text (packed bytes) words e
packed_where false words bytes text e h = cc

-- words that are read as a text are its packing
pub packed-unpacked : (words : List ℕ) (text : ShortText) → unpacked words ≡ Some text → packed text.bytes ≡ words
unfolding unpacked
packed-unpacked words text h = packed_where (bytes_eq (packed (bytes_in words)) words) words (bytes_in words) text refl h

-- words that are read as no text are the packing of none
pub packed-no_text : (words : List ℕ) (text : ShortText) → unpacked words ≡ None → packed text.bytes ≢ words
packed-no_text words text h e = let back = ap unpacked e in let whole = unpacked-packed text in cc

-- the same as one fact
pub unpacked_says : (words : List ℕ) (o : Option ShortText) → o ≡ unpacked words
    → MatchOption o ((text : ShortText) → packed text.bytes ≢ words) (λ text. packed text.bytes ≡ words)
unpacked_says words None e = λ text. packed-no_text words text (sym e)
unpacked_says words (Some text) e = packed-unpacked words text (sym e)

-- the bytes tell short texts apart, and so do the words
pub same_short : (s t : ShortText) → s.bytes ≡ t.bytes → s ≡ t
same_short s t e = let left = short_of-bytes s in let right = short_of-bytes t in let both = ap short_of e in cc

-- what `==` of short texts has told
pub same_short_tested : (s t : ShortText) → true ≡ bytes_eq s.bytes t.bytes → s ≡ t
same_short_tested s t e = same_short s t (same_text s.bytes t.bytes e)

-- what a value made of a packing is
pub packed_inside : (bytes words : List ℕ) → IsShort bytes → words ≡ packed bytes → IsShort (bytes_in words) × (packed (bytes_in words) ≡ words)
packed_inside bytes words h e =
    let same : bytes_in words ≡ bytes = ap bytes_in e ∙ bytes_in-packed bytes h in
    (ap is_short same ∙ h, ap packed same ∙ sym e)

pub packed_view : (bytes words : List ℕ) → IsShort bytes → words ≡ packed bytes → Some (short_at (bytes_in words)) ≡ short_of bytes
packed_view bytes words h e =
    let text : ShortText = record { bytes = bytes; short = h } in
    ap (λ bs. Some (short_at bs)) (ap bytes_in e ∙ bytes_in-packed bytes h) ∙ ap Some (short_at-bytes text) ∙ sym (short_of-bytes text)

pub packed_view_bytes : (bytes words : List ℕ) → IsShort bytes → words ≡ packed bytes → (short_at (bytes_in words)).bytes ≡ bytes
packed_view_bytes bytes words h e =
    let text : ShortText = record { bytes = bytes; short = h } in
    ap (λ bs. (short_at bs).bytes) (ap bytes_in e ∙ bytes_in-packed bytes h) ∙ ap (λ t. t.bytes) (short_at-bytes text)

short_if-false : (b : Bool) (bytes : List ℕ) (e : is_short bytes ≡ b) → b ≡ false → short_if b bytes e ≡ None
short_if-false true bytes e h = cc
short_if-false false bytes e h = refl

either_none : (b : Bool) (o : Option ShortText) → o ≡ None → cond b o None ≡ None
either_none true o h = h
either_none false o h = refl

pub unpacked-no_text : (words : List ℕ) → short_of (bytes_in words) ≡ None → unpacked words ≡ None
unfolding unpacked
unpacked-no_text words h = either_none (bytes_eq (packed (bytes_in words)) words) (short_of (bytes_in words)) h

pub unpacked-same : (words : List ℕ) (text : ShortText) → packed text.bytes ≡ words → unpacked words ≡ Some text
unpacked-same words text e = ap unpacked (sym e) ∙ unpacked-packed text

pub unpacked-other : (words : List ℕ) (text : ShortText) → short_of (bytes_in words) ≡ Some text → bytes_eq (packed text.bytes) words ≡ false → unpacked words ≡ None
unfolding unpacked
unpacked-other words text h e =
    let same = text_of_some (is_short (bytes_in words)) (bytes_in words) refl text h in
    ap (λ b. cond b (short_of (bytes_in words)) None) (ap (λ bs. bytes_eq (packed bs) words) (sym same) ∙ e)

pub bytes_in-front : (words bytes front : List ℕ) → bytes ≡ high_bytes words → front ≡ take (slice_index bytes 23) bytes → front ≡ bytes_in words
unfolding bytes_in
bytes_in-front words bytes front e h = h ∙ ap (λ bs. take (slice_index bs 23) bs) e

-- the bytes of a short text's packing
pub packed_last-of : (text : ShortText) → slice_index (high_bytes (packed text.bytes)) 23 ≡ length text.bytes
packed_last-of text =
    ap (λ bs. slice_index bs 23) (high_bytes-packed text.bytes text.short) ∙ slice_index-padded_last text.bytes (parts text.bytes text.short).fits

pub packed_byte-of : (text : ShortText) (i : ℕ) → i < length text.bytes → slice_index (high_bytes (packed text.bytes)) i ≡ slice_index text.bytes i
packed_byte-of text i lt =
    ap (λ bs. slice_index bs i) (high_bytes-packed text.bytes text.short) ∙ slice_index-padded text.bytes i lt

pub fits-of : (text : ShortText) → length text.bytes ≤ 23
fits-of text = (parts text.bytes text.short).fits

pub ruleset packing = (packed_view, packed_view_bytes, packed_last-of, packed_byte-of, fits-of)

words_fit : (n : ℕ) (bs : List ℕ) → Bytes bs → (i : ℕ) → slice_index (words_in high_word n bs) i < 2 ^ 64
unfolding words_in
words_fit zero bs h i = omega arith
words_fit (suc n) bs h zero = omega (arith, high_word-big bs, big_from-lt 0 8 bs h)
words_fit (suc n) bs h (suc i) = words_fit n (drop 8 bs) (dropped 8 bs h) i

-- a packing is three words of 64 bits
pub length-packed : (bytes : List ℕ) → length (packed bytes) ≡ 3
unfolding packed
length-packed bytes = length-words_in high_word 3 (padded bytes)

pub packed_fits : (text : ShortText) (i : ℕ) → slice_index (packed text.bytes) i < 2 ^ 64
unfolding packed
packed_fits text i = words_fit 3 (padded text.bytes) (padded_bytes text.bytes text.short) i
