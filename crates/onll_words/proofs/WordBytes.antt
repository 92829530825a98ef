use Rattle.std.proofs.Common.{ℕ, zero, suc, List, [], ◌∷◌, ◌++◌, ◌≡◌, ◌+◌, ◌*◌, ◌/◌, ◌%◌, ◌^◌, ◌<◌, ◌≤◌, length, take, drop, get_or, slice_index, refl, ap, sym, ◌∙◌, arith}
use Rattle.std.specs.List.{flat_map}
use Rattle.std.specs.Int.{w64, to_le_bytes, to_be_bytes}
use Rattle.std.proofs.lemmas.Nat.{le_bytes_8, be_bytes_8}
use Rattle.std.proofs.lemmas.List.{take-append-drop, length-take-le, get_or-drop, drop-drop, drop_at, length-drop, nil_from_length, ext_get_or, get_or_append_left, get_or-append-add}
use Rattle.byteorder.specs.Numbers.{little_number-reads_back, little_from-take, big_number-reads_back, big_from-take}
use Rattle.byteorder.specs.Endian.{little_number, big_number, IsRead}
use Rattle.onll_words.specs.Bytes.{words_in, low_word, high_word, high_bytes}

-- each number in the list is a byte
abbrev pub Bytes : List ℕ → Type 0
Bytes bs = (i : ℕ) → slice_index bs i < 256

-- `word` reads the first word in bytes, and `bytes` are the eight bytes of a word
pub record IsByteOrder (word : List ℕ → ℕ) (bytes : ℕ → List ℕ) : Type 0 where
  pub eight : (w : ℕ) → length (bytes w) ≡ 8
  pub back : (w : ℕ) (rest : List ℕ) → w < 2 ^ 64 → word (bytes w ++ rest) ≡ w
  pub forth : (bs : List ℕ) → 8 ≤ length bs → Bytes bs → bytes (word bs) ≡ take 8 bs

taken : (n : ℕ) (bs : List ℕ) → Bytes bs → Bytes (take n bs)
taken zero bs h i = omega arith
taken (suc n) [] h i = omega arith
taken (suc n) (b ∷ bs) h zero = h 0
taken (suc n) (b ∷ bs) h (suc i) = taken n bs (λ j. h (suc j)) i

pub dropped : (n : ℕ) (bs : List ℕ) → Bytes bs → Bytes (drop n bs)
dropped n bs h i = omega (arith, get_or-drop n bs i 0, h (n + i))

-- std and `byteorder` read the same word
pub low_word-little : (bs : List ℕ) → low_word bs ≡ little_number 8 bs
low_word-little bs = omega arith

pub high_word-big : (bs : List ℕ) → high_word bs ≡ big_number 8 bs
high_word-big bs = omega arith

low_word-take : (bs : List ℕ) → low_word bs ≡ low_word (take 8 bs)
low_word-take bs = low_word-little bs ∙ sym (little_from-take 0 8 8 bs (omega arith)) ∙ sym (low_word-little (take 8 bs))

high_word-take : (bs : List ℕ) → high_word bs ≡ high_word (take 8 bs)
high_word-take bs = high_word-big bs ∙ sym (big_from-take 0 8 8 bs (omega arith)) ∙ sym (high_word-big (take 8 bs))

pub low_first : IsByteOrder low_word (to_le_bytes w64)
low_first = record {
  eight = λ w. refl;
  back = λ w rest h. low_word-little (to_le_bytes w64 w ++ rest) ∙ little_number-reads_back 8 w rest h;
  forth = λ bs len h. le_bytes_8 (take 8 bs) (low_word bs) (length-take-le 8 bs len) (taken 8 bs h) (low_word-take bs);
}

pub high_first : IsByteOrder high_word (to_be_bytes w64)
high_first = record {
  eight = λ w. refl;
  back = λ w rest h. high_word-big (to_be_bytes w64 w ++ rest) ∙ big_number-reads_back 8 w rest h;
  forth = λ bs len h. be_bytes_8 (take 8 bs) (high_word bs) (length-take-le 8 bs len) (taken 8 bs h) (high_word-take bs);
}

-- the words in the bytes of words are those words
pub words_in-flat_map : {word : List ℕ → ℕ} {bytes : ℕ → List ℕ} (o : IsByteOrder word bytes) (words : List ℕ)
    → ((i : ℕ) → slice_index words i < 2 ^ 64) → words_in word (length words) (flat_map bytes words) ≡ words
unfolding words_in
words_in-flat_map o [] h = refl
words_in-flat_map {word} {bytes} o (w ∷ ws) h =
    ap (λ v. v ∷ words_in word (length ws) (drop 8 (bytes w ++ flat_map bytes ws))) (o.back w (flat_map bytes ws) (h 0))
    ∙ ap (λ bs. w ∷ words_in word (length ws) bs) (drop_at (bytes w) (flat_map bytes ws) 8 (o.eight w))
    ∙ ap (λ vs. w ∷ vs) (words_in-flat_map o ws (λ i. h (suc i)))

-- the bytes of the words in bytes are those bytes
pub flat_map-words_in : {word : List ℕ → ℕ} {bytes : ℕ → List ℕ} (o : IsByteOrder word bytes) (n : ℕ) (bs : List ℕ)
    → length bs ≡ 8 * n → Bytes bs → flat_map bytes (words_in word n bs) ≡ bs
unfolding words_in
flat_map-words_in o zero bs len h = sym (nil_from_length bs (omega arith))
flat_map-words_in {word} {bytes} o (suc n) bs len h =
    ap (λ t. bytes (word bs) ++ t) (flat_map-words_in o n (drop 8 bs) (omega (arith, length-drop 8 bs)) (dropped 8 bs h))
    ∙ ap (λ t. t ++ drop 8 bs) (o.forth bs (omega arith) h)
    ∙ take-append-drop 8 bs

-- a word by its place
pub get_or-words_in : (word : List ℕ → ℕ) (n : ℕ) (bs : List ℕ) (k d : ℕ) → k < n → get_or (words_in word n bs) k d ≡ word (drop (8 * k) bs)
unfolding words_in
get_or-words_in word zero bs k d lt = absurd (omega arith)
get_or-words_in word (suc n) bs zero d lt = refl
get_or-words_in word (suc n) bs (suc k) d lt =
    let e : 8 + 8 * k ≡ 8 * suc k = omega arith in
    get_or-words_in word n (drop 8 bs) k d (omega arith) ∙ ap word (drop-drop (8 * k) 8 bs ∙ ap (λ j. drop j bs) e)

pub length-words_in : (word : List ℕ → ℕ) (n : ℕ) (bs : List ℕ) → length (words_in word n bs) ≡ n
unfolding words_in
length-words_in word zero bs = refl
length-words_in word (suc n) bs = ap suc (length-words_in word n (drop 8 bs))

-- what reading the words in order gives
pub words_in-read : (word : List ℕ → ℕ) (number : ℕ → List ℕ → ℕ) (n : ℕ) (bs words : List ℕ) → ((xs : List ℕ) → word xs ≡ number 8 xs)
    → length words ≡ n → IsRead number 8 bs words → words ≡ words_in word n bs
words_in-read word number n bs words same len h =
    ext_get_or 0 words (words_in word n bs) (len ∙ sym (length-words_in word n bs))
    (λ k lt. h k lt ∙ sym (same (drop (8 * k) bs)) ∙ sym (get_or-words_in word n bs k 0 (omega (arith, len))))

-- a byte of words by the place of its word and its place in that word
pub get_or-flat_map : {word : List ℕ → ℕ} {bytes : ℕ → List ℕ} (o : IsByteOrder word bytes) (words : List ℕ) (q r d e : ℕ)
    → q < length words → r < 8 → get_or (flat_map bytes words) (8 * q + r) d ≡ get_or (bytes (get_or words q e)) r d
get_or-flat_map o [] q r d e lt h = absurd (omega arith)
get_or-flat_map {word} {bytes} o (w ∷ ws) zero r d e lt h =
    let i : 8 * 0 + r ≡ r = omega arith in
    ap (λ k. get_or (bytes w ++ flat_map bytes ws) k d) i ∙ get_or_append_left (bytes w) (flat_map bytes ws) d r (omega (arith, o.eight w))
get_or-flat_map {word} {bytes} o (w ∷ ws) (suc q) r d e lt h =
    let i : 8 * suc q + r ≡ length (bytes w) + (8 * q + r) = omega (arith, o.eight w) in
    ap (λ k. get_or (bytes w ++ flat_map bytes ws) k d) i ∙ get_or-append-add (bytes w) (flat_map bytes ws) (8 * q + r) d
    ∙ get_or-flat_map o ws q r d e (omega arith) h

pub get_or-high_bytes : (words : List ℕ) (i : ℕ) → i < 8 * length words → get_or (high_bytes words) i 0 ≡ get_or (to_be_bytes w64 (get_or words (i / 8) 0)) (i % 8) 0
get_or-high_bytes words i lt =
    let e : i ≡ 8 * (i / 8) + i % 8 = omega arith in
    ap (λ k. get_or (high_bytes words) k 0) e ∙ get_or-flat_map high_first words (i / 8) (i % 8) 0 0 (omega arith) (omega arith)
