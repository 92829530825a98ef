-- Lines of eight words of 64 bits.

use Rattle.std.proofs.Common.{rules, ℕ, zero, suc, ◌^◌, ◌<◌, List, [], ◌∷◌, ◌++◌, slice_index, ◌≡◌, ◌*◌, length, length-append, map, drop, refl, ap, ◌∙◌, append_assoc, arith, ◌⊎◌, inl, inr}
use Rattle.std.specs.List.{AllByRecursion}
use Rattle.std.specs.Int.{w64, to_le_bytes}
use Rattle.std.specs.Simd.{first_chunks}
use Rattle.std.proofs.lemmas.List.{take_at, drop_at}
use Rattle.onll_words.specs.Lines.{bytes_of_words, words_of_bytes}
use Rattle.onll_words.proofs.LineBytes.{words_of_bytes-bytes_of_words}
use Rattle.onll_pmem.specs.Device.{zero_lines, MixedWords}
use Rattle.onll_outside.specs.LineFiles.{IsWholeLine}
use Rattle.onll_outside.specs.Views.{image_bytes}

pub words_all : (words : List ℕ) → ((i : ℕ) → slice_index words i < 2 ^ 64) → AllByRecursion (λ w. w < 2 ^ 64) words
words_all [] h = tt
words_all (w ∷ words) h = (h 0, words_all words (λ i. h (suc i)))

pub zeros_whole : (n : ℕ) → AllByRecursion IsWholeLine (zero_lines n)
zeros_whole zero = tt
zeros_whole (suc n) = (search rules, zeros_whole n)

-- lines of zeros after whole lines
pub whole_to_end : (lines : List (List ℕ)) (n : ℕ) → AllByRecursion IsWholeLine lines → AllByRecursion IsWholeLine (lines ++ zero_lines n)
whole_to_end [] n h = zeros_whole n
whole_to_end (line ∷ lines) n h = (h.0, whole_to_end lines n h.1)

-- ---- one line
pub words_below : (words : List ℕ) → AllByRecursion (λ w. w < 2 ^ 64) words → (i : ℕ) → slice_index words i < 2 ^ 64
words_below [] h i = omega arith
words_below (w ∷ ws) h zero = h.0
words_below (w ∷ ws) h (suc i) = words_below ws h.1 i

pub line_back : (line : List ℕ) → IsWholeLine line → words_of_bytes (bytes_of_words line) ≡ line
line_back line h = words_of_bytes-bytes_of_words line h.eight (words_below line h.words)

pub length-bytes_of_words : (words : List ℕ) → length (bytes_of_words words) ≡ 8 * length words
length-bytes_of_words [] = refl
length-bytes_of_words (w ∷ ws) =
    let here : length (to_le_bytes w64 w) ≡ 8 = refl in
    let rest = length-bytes_of_words ws in
    let all = length-append (to_le_bytes w64 w) (bytes_of_words ws) in
    omega (arith, here, rest, all)

pub line_bytes_many : (line : List ℕ) → IsWholeLine line → length (bytes_of_words line) ≡ 64
line_bytes_many line h = let many = length-bytes_of_words line in let eight = h.eight in omega (arith, many, eight)

-- ---- the lines of a file
pub chunks_back : (lines : List (List ℕ)) (rest : List ℕ) → AllByRecursion IsWholeLine lines
    → map words_of_bytes (first_chunks 64 (length lines) (image_bytes lines ++ rest)) ≡ lines
chunks_back [] rest h = refl
chunks_back (line ∷ lines) rest h =
    let long = line_bytes_many line h.0 in
    let after = image_bytes lines ++ rest in
    ap (λ bs. map words_of_bytes (first_chunks 64 (suc (length lines)) bs)) (append_assoc (bytes_of_words line) (image_bytes lines) rest)
    ∙ ap (λ bs. words_of_bytes bs ∷ map words_of_bytes (first_chunks 64 (length lines) (drop 64 (bytes_of_words line ++ after))))
    (take_at (bytes_of_words line) after 64 long)
    ∙ ap (λ bs. words_of_bytes (bytes_of_words line) ∷ map words_of_bytes (first_chunks 64 (length lines) bs)) (drop_at (bytes_of_words line) after 64 long)
    ∙ ap (λ (l : List ℕ). l ∷ map words_of_bytes (first_chunks 64 (length lines) after)) (line_back line h.0)
    ∙ ap (λ (ls : List (List ℕ)). line ∷ ls) (chunks_back lines rest h.1)

pub length-image_bytes : (lines : List (List ℕ)) → AllByRecursion IsWholeLine lines → length (image_bytes lines) ≡ 64 * length lines
length-image_bytes [] h = refl
length-image_bytes (line ∷ lines) h =
    let here = line_bytes_many line h.0 in
    let rest = length-image_bytes lines h.1 in
    let all = length-append (bytes_of_words line) (image_bytes lines) in
    omega (arith, here, rest, all)

abbrev pub Words : List ℕ → Type 0
Words words = AllByRecursion (λ w. w < 2 ^ 64) words

-- ---- mixes
pub mixed_word : (x y z : ℕ) → (z ≡ x) ⊎ (z ≡ y) → x < 2 ^ 64 → y < 2 ^ 64 → z < 2 ^ 64
mixed_word x y z (inl e) h g = omega (arith, e, h)
mixed_word x y z (inr e) h g = omega (arith, e, g)

pub mixed_words : (xs ys zs : List ℕ) → MixedWords xs ys zs → Words xs → Words ys → Words zs × (length zs ≡ length xs)
mixed_words [] [] [] m h g = (tt, refl)
mixed_words [] [] (z ∷ zs) m h g = absurd m
mixed_words [] (y ∷ ys) zs m h g = absurd m
mixed_words (x ∷ xs) [] zs m h g = absurd m
mixed_words (x ∷ xs) (y ∷ ys) [] m h g = absurd m
mixed_words (x ∷ xs) (y ∷ ys) (z ∷ zs) m h g =
    let rest = mixed_words xs ys zs m.1 h.1 g.1 in
    ((mixed_word x y z m.0 h.0 g.0, rest.0), ap suc rest.1)

pub mixed_line : (x y z : List ℕ) → MixedWords x y z → IsWholeLine x → IsWholeLine y → IsWholeLine z
mixed_line x y z m h g = let words = mixed_words x y z m h.words g.words in record { eight = words.1 ∙ h.eight; words = words.0 }
