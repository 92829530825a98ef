use Rattle.std.proofs.Common.{ℕ, zero, suc, List, [], ◌∷◌, ◌++◌, ◌≡◌, ◌+◌, ◌-◌, ◌*◌, ◌^◌, ◌<◌, ◌≤◌, length, take, drop, replicate, slice_index, refl, ap, sym, ◌∙◌, append_assoc, arith}
use Rattle.std.specs.Str.{bytes_eq}
use Rattle.std.specs.declared.cmp.Ordering.{Ordering}
use Rattle.std.specs.declared.cmp.Ordering.TheVariants.{Less, Equal, Greater}
use Rattle.std.specs.Ordering.{nat_cmp, ordering_then, is_eq, MatchOrdering}
use Rattle.std.specs.Cmp.Lexicographic.{slice_cmp}
use Rattle.std.specs.Cmp.{nat_cmp_is}
use Rattle.std.proofs.lemmas.Cmp.{nat_list_cmp_total, tied_itself, ranked}
use Rattle.std.proofs.lemmas.Map.Text.{is_eq-slice_cmp}
use Rattle.std.proofs.lemmas.List.{take-append-drop, length-take-le, length-drop, nil_from_length}
use Rattle.std.proofs.Math.Nat.{mul-le-mul_right, add-mul}
use Rattle.byteorder.specs.Endian.{big_from}
use Rattle.byteorder.specs.Numbers.{big_from-cons, big_from-lt}
use Rattle.onll_words.specs.Bytes.{words_in, high_word}
use Rattle.onll_words.specs.Short.{IsShort, ShortText, padded, packed}
use Rattle.onll_words.proofs.WordBytes.{Bytes, dropped, high_word-big}
use Rattle.onll_words.proofs.Packing.{parts, text_byte, length-padded, padded_bytes}

-- The order of packings is that of their texts.

then_assoc : (o p q : Ordering) → ordering_then (ordering_then o p) q ≡ ordering_then o (ordering_then p q)
then_assoc Less p q = refl
then_assoc Equal p q = refl
then_assoc Greater p q = refl

-- fronts of one length are compared first
slice_cmp-append : (a b c d : List ℕ) → length a ≡ length b → slice_cmp nat_cmp (a ++ c) (b ++ d) ≡ ordering_then (slice_cmp nat_cmp a b) (slice_cmp nat_cmp c d)
slice_cmp-append [] [] c d e = refl
slice_cmp-append [] (y ∷ ys) c d e = absurd (omega arith)
slice_cmp-append (x ∷ xs) [] c d e = absurd (omega arith)
slice_cmp-append (x ∷ xs) (y ∷ ys) c d e =
    ap (ordering_then (nat_cmp x y)) (slice_cmp-append xs ys c d (omega arith))
    ∙ sym (then_assoc (nat_cmp x y) (slice_cmp nat_cmp xs ys) (slice_cmp nat_cmp c d))

above : (x y r s m : ℕ) → r < m → x < y → x * m + r < y * m + s
above x y r s m h lt =
    let step : (x + 1) * m ≤ y * m = mul-le-mul_right m (omega arith) in
    omega (arith, step, add-mul x 1 m)

-- numbers that stand as far apart are compared alike
shifted : (o : Ordering) (a b r s : ℕ) → a ≡ b → MatchOrdering o (r < s) (r ≡ s) (s < r) → MatchOrdering o (a + r < b + s) (a + r ≡ b + s) (b + s < a + r)
shifted Less a b r s e h = omega arith
shifted Equal a b r s e h = omega arith
shifted Greater a b r s e h = omega arith

nat_cmp-shifted : (a b r s : ℕ) → a ≡ b → nat_cmp (a + r) (b + s) ≡ nat_cmp r s
nat_cmp-shifted a b r s e = sym (nat_cmp_is (a + r) (b + s) (nat_cmp r s) (shifted (nat_cmp r s) a b r s e (ranked r s (nat_cmp r s) refl)))

by_digit : (o : Ordering) (x y r s m : ℕ) → r < m → s < m → MatchOrdering o (x < y) (x ≡ y) (y < x) → nat_cmp (x * m + r) (y * m + s) ≡ ordering_then o (nat_cmp r s)
by_digit Less x y r s m g h lt = sym (nat_cmp_is (x * m + r) (y * m + s) Less (above x y r s m g lt))
by_digit Equal x y r s m g h e = nat_cmp-shifted (x * m) (y * m) r s (ap (λ k. k * m) e)
by_digit Greater x y r s m g h gt = sym (nat_cmp_is (x * m + r) (y * m + s) Greater (above y x s r m h gt))

-- of numbers with a digit in front, that digit is compared first
nat_cmp-digit : (x y r s m : ℕ) → r < m → s < m → nat_cmp (x * m + r) (y * m + s) ≡ ordering_then (nat_cmp x y) (nat_cmp r s)
nat_cmp-digit x y r s m g h = by_digit (nat_cmp x y) x y r s m g h (ranked x y (nat_cmp x y) refl)

-- a number is compared as its bytes, the highest first
nat_cmp-big_from : (n : ℕ) (xs ys : List ℕ) → n ≤ length xs → n ≤ length ys → Bytes xs → Bytes ys
    → nat_cmp (big_from 0 n xs) (big_from 0 n ys) ≡ slice_cmp nat_cmp (take n xs) (take n ys)
nat_cmp-big_from zero xs ys k l g h = refl
nat_cmp-big_from (suc n) [] ys k l g h = absurd (omega arith)
nat_cmp-big_from (suc n) (x ∷ xs) [] k l g h = absurd (omega arith)
nat_cmp-big_from (suc n) (x ∷ xs) (y ∷ ys) k l g h =
    let gs : Bytes xs = λ i. g (suc i) in
    let hs : Bytes ys = λ i. h (suc i) in
    ap (λ r. nat_cmp (x * 256 ^ n + r) (big_from 0 (suc n) (y ∷ ys))) (big_from-cons 0 n x xs)
    ∙ ap (λ s. nat_cmp (x * 256 ^ n + big_from 0 n xs) (y * 256 ^ n + s)) (big_from-cons 0 n y ys)
    ∙ nat_cmp-digit x y (big_from 0 n xs) (big_from 0 n ys) (256 ^ n) (big_from-lt 0 n xs gs) (big_from-lt 0 n ys hs)
    ∙ ap (ordering_then (nat_cmp x y)) (nat_cmp-big_from n xs ys (omega arith) (omega arith) gs hs)

nat_cmp-high_word : (xs ys : List ℕ) → 8 ≤ length xs → 8 ≤ length ys → Bytes xs → Bytes ys
    → nat_cmp (high_word xs) (high_word ys) ≡ slice_cmp nat_cmp (take 8 xs) (take 8 ys)
nat_cmp-high_word xs ys k l g h =
    ap (λ a. nat_cmp a (high_word ys)) (high_word-big xs) ∙ ap (nat_cmp (big_from 0 8 xs)) (high_word-big ys)
    ∙ nat_cmp-big_from 8 xs ys k l g h

-- words are compared as their bytes
slice_cmp-words_in : (n : ℕ) (xs ys : List ℕ) → length xs ≡ 8 * n → length ys ≡ 8 * n → Bytes xs → Bytes ys
    → slice_cmp nat_cmp (words_in high_word n xs) (words_in high_word n ys) ≡ slice_cmp nat_cmp xs ys
unfolding words_in
slice_cmp-words_in zero xs ys k l g h =
    ap (λ t. slice_cmp nat_cmp t []) (sym (nil_from_length xs (omega arith))) ∙ ap (slice_cmp nat_cmp xs) (sym (nil_from_length ys (omega arith)))
slice_cmp-words_in (suc n) xs ys k l g h =
    let rest = slice_cmp-words_in n (drop 8 xs) (drop 8 ys) (omega (arith, length-drop 8 xs)) (omega (arith, length-drop 8 ys)) (dropped 8 xs g) (dropped 8 ys h) in
    let front = nat_cmp-high_word xs ys (omega arith) (omega arith) g h in
    ap (ordering_then (nat_cmp (high_word xs) (high_word ys))) rest
    ∙ ap (λ o. ordering_then o (slice_cmp nat_cmp (drop 8 xs) (drop 8 ys))) front
    ∙ sym (slice_cmp-append (take 8 xs) (take 8 ys) (drop 8 xs) (drop 8 ys) (length-take-le 8 xs (omega arith) ∙ sym (length-take-le 8 ys (omega arith))))
    ∙ ap (λ t. slice_cmp nat_cmp t (take 8 ys ++ drop 8 ys)) (take-append-drop 8 xs)
    ∙ ap (slice_cmp nat_cmp xs) (take-append-drop 8 ys)

-- a zero stands first
pub record ZeroFirst (xs : List ℕ) : Type 0 where
  pub some : 0 < length xs
  pub zero_first : slice_index xs 0 ≡ 0

-- each byte is above 0
abbrev Above : List ℕ → Type 0
Above xs = (i : ℕ) → i < length xs → 0 < slice_index xs i

-- what follows texts of different lengths makes no difference, where the shorter is followed by a zero
slice_cmp-tails : (xs ys s t : List ℕ) → Above xs → Above ys → (length xs ≡ length ys → slice_cmp nat_cmp s t ≡ Equal)
    → (length xs < length ys → ZeroFirst s) → (length ys < length xs → ZeroFirst t) → slice_cmp nat_cmp (xs ++ s) (ys ++ t) ≡ slice_cmp nat_cmp xs ys
slice_cmp-tails [] [] s t g h both left right = both refl
slice_cmp-tails [] (y ∷ ys) [] t g h both left right = let z = (left (omega arith)).some in absurd (omega arith)
slice_cmp-tails [] (y ∷ ys) (a ∷ s) t g h both left right =
    let z : a ≡ 0 = (left (omega arith)).zero_first in
    let high = h 0 (omega arith) in
    ap (λ o. ordering_then o (slice_cmp nat_cmp s (ys ++ t))) (sym (nat_cmp_is a y Less (omega (arith, z, high))))
slice_cmp-tails (x ∷ xs) [] s [] g h both left right = let z = (right (omega arith)).some in absurd (omega arith)
slice_cmp-tails (x ∷ xs) [] s (b ∷ t) g h both left right =
    let z : b ≡ 0 = (right (omega arith)).zero_first in
    let high = g 0 (omega arith) in
    ap (λ o. ordering_then o (slice_cmp nat_cmp (xs ++ s) t)) (sym (nat_cmp_is x b Greater (omega (arith, z, high))))
slice_cmp-tails (x ∷ xs) (y ∷ ys) s t g h both left right =
    ap (ordering_then (nat_cmp x y))
    (slice_cmp-tails xs ys s t (λ i lt. g (suc i) (omega arith)) (λ i lt. h (suc i) (omega arith)) (λ e. both (omega arith)) (λ lt. left (omega arith)) (λ lt. right (omega arith)))

zeros_first : (k : ℕ) (xs : List ℕ) → 0 < k → ZeroFirst (replicate k 0 ++ xs)
zeros_first zero xs h = absurd (omega arith)
zeros_first (suc k) xs h = record { some = omega arith; zero_first = refl }

tail_of : ℕ → List ℕ
tail_of n = replicate (23 - n) 0 ++ n ∷ []

padded-tail : (bytes : List ℕ) → padded bytes ≡ bytes ++ tail_of (length bytes)
unfolding padded tail_of
padded-tail bytes = append_assoc bytes (replicate (23 - length bytes) 0) (length bytes ∷ [])

tail_zero : (m n : ℕ) → m < n → n ≤ 23 → ZeroFirst (tail_of m)
unfolding tail_of
tail_zero m n lt h = zeros_first (23 - m) (m ∷ []) (omega arith)

text_above : (bytes : List ℕ) → IsShort bytes → Above bytes
text_above bytes h i lt = omega (arith, (text_byte bytes (parts bytes h).text i 0 lt).0)

slice_cmp-padded : (s t : List ℕ) → IsShort s → IsShort t → slice_cmp nat_cmp (padded s) (padded t) ≡ slice_cmp nat_cmp s t
slice_cmp-padded s t g h =
    ap (λ v. slice_cmp nat_cmp v (padded t)) (padded-tail s) ∙ ap (slice_cmp nat_cmp (s ++ tail_of (length s))) (padded-tail t)
    ∙ slice_cmp-tails s t (tail_of (length s)) (tail_of (length t)) (text_above s g) (text_above t h)
    (λ e. ap (λ n. slice_cmp nat_cmp (tail_of n) (tail_of (length t))) e ∙ tied_itself nat_list_cmp_total (tail_of (length t)))
    (λ lt. tail_zero (length s) (length t) lt (parts t h).fits)
    (λ lt. tail_zero (length t) (length s) lt (parts s g).fits)

-- comparing the words of packings compares the texts' bytes
pub slice_cmp-packed : (s t : ShortText) → slice_cmp nat_cmp (packed s.bytes) (packed t.bytes) ≡ slice_cmp nat_cmp s.bytes t.bytes
unfolding packed
slice_cmp-packed s t =
    slice_cmp-words_in 3 (padded s.bytes) (padded t.bytes) (length-padded s.bytes (parts s.bytes s.short).fits) (length-padded t.bytes (parts t.bytes t.short).fits)
    (padded_bytes s.bytes s.short) (padded_bytes t.bytes t.short)
    ∙ slice_cmp-padded s.bytes t.bytes s.short t.short

pub bytes_eq-packed : (s t : ShortText) → bytes_eq (packed s.bytes) (packed t.bytes) ≡ bytes_eq s.bytes t.bytes
bytes_eq-packed s t =
    sym (is_eq-slice_cmp (packed s.bytes) (packed t.bytes)) ∙ ap is_eq (slice_cmp-packed s t) ∙ is_eq-slice_cmp s.bytes t.bytes

pub ruleset comparing_packings = (slice_cmp-packed, bytes_eq-packed)
