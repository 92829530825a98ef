use borrow.Author.Tests.{ltb-true}
use Rattle.std.proofs.Common.{None, sym, nat_lt, nat_le, ℕ, zero, suc, Bool, true, false, List, [], ◌∷◌, ◌≡◌, ◌+◌, ◌/◌, ◌%◌, ◌^◌, ◌<◌, ◌≤◌, length, cond, ◌&&◌, ◌==◌, refl, ap, ◌∙◌, arith, add-one, Some}
use Rattle.std.specs.Fmt.{decimal, digits, digits_onto, digit_glyph}
use Rattle.std.specs.List.{list_all}
use Rattle.std.proofs.lemmas.Str.Parse.{IsNumeralModel, IsDigitsTest, numerals_by_fold}
use Rattle.std.proofs.lemmas.Fmt.{digits_decimal, digits_value-decimal, length-decimal-le, decimal_nonempty}
use Rattle.std.proofs.lemmas.Bool.Decides.{nat_tests}
use Rattle.onll_words.specs.Numbers.{is_digit, run_len, value_after, fitting, value_of_digits, number_of}
use Rattle.onll_words.specs.Texts.{is_word_byte, IsWord}

one_more : (b : Bool) (n m : ℕ) → cond b (n + 1) 0 ≡ suc m → (b ≡ true) × (n ≡ m)
one_more true n m e = (refl, omega arith)
one_more false n m e = absurd (omega arith)

digit_range : (c : ℕ) → is_digit c ≡ true → (48 ≤ c) × (c ≤ 57)
digit_range c e = grind (arith, nat_tests)

in_range_digit : (c : ℕ) → 48 ≤ c → c ≤ 57 → is_digit c ≡ true
in_range_digit c low high = grind (arith, nat_tests)

read_digits : IsDigitsTest (λ ds. run_len ds ≡ length ds)
read_digits = record {
  empty = refl;
  parts = λ c cs h. let one = one_more (is_digit c) (run_len cs) (length cs) h in (digit_range c one.0, one.1);
  more = λ c cs r h. ap (λ b. cond b (run_len cs + 1) 0) (in_range_digit c r.0 r.1) ∙ ap (λ n. n + 1) h ∙ add-one _;
}

own : IsNumeralModel (λ ds. run_len ds ≡ length ds) (value_after 0)
own = numerals_by_fold (λ ds. run_len ds ≡ length ds) read_digits value_after (record { empty = λ n. refl; more = λ n c cs r. refl })

number_of_digits : (w : List ℕ) (n : ℕ) → run_len w ≡ length w → 0 < length w → length w ≤ 20 → value_after 0 w ≡ n → n < 2 ^ 64 → number_of w ≡ Some n
number_of_digits w n run some short value fits = grind (arith, nat_tests)

-- a number that is written in decimal is read back
pub number_of-decimal : (n : ℕ) → n < 2 ^ 64 → number_of (decimal n) ≡ Some n
number_of-decimal n h =
    number_of_digits (decimal n) n (digits_decimal own n h) (decimal_nonempty n h) (length-decimal-le 20 n (omega arith) (omega arith) h) (digits_value-decimal own n h) h

word_byte : (b : ℕ) → 33 ≤ b → is_word_byte b ≡ true
word_byte b h = grind (arith, nat_tests)

glyph_byte : (n : ℕ) → is_word_byte (digit_glyph false (n % 10)) ≡ true
glyph_byte n = word_byte (digit_glyph false (n % 10)) (grind (arith, nat_tests))

word_more : (b : ℕ) (bs : List ℕ) → is_word_byte b ≡ true → list_all is_word_byte bs ≡ true → IsWord (b ∷ bs)
word_more b bs e h = record { some = grind (arith, nat_tests); bytes = ap (λ t. t && list_all is_word_byte bs) e ∙ h }

either_word : (b : Bool) (v w : List ℕ) → IsWord v → IsWord w → IsWord (cond b v w)
either_word true v w g h = g
either_word false v w g h = h

digits_word : (k n x : ℕ) (acc : List ℕ) → IsWord (x ∷ acc) → IsWord (digits_onto k 10 false n (x ∷ acc))
digits_word zero n x acc h = h
digits_word (suc k) n x acc h =
    let d = digit_glyph false (n % 10) in
    let more = word_more d (x ∷ acc) (glyph_byte n) h.bytes in
    either_word (n / 10 == 0) (d ∷ x ∷ acc) (digits_onto k 10 false (n / 10) (d ∷ x ∷ acc)) more (digits_word k (n / 10) d (x ∷ acc) more)

-- a number in decimal is one word
pub IsWord-decimal : (n : ℕ) → IsWord (decimal n)
unfolding digits
IsWord-decimal n =
    let d = digit_glyph false (n % 10) in
    let one = word_more d [] (glyph_byte n) refl in
    either_word (n / 10 == 0) (d ∷ []) (digits_onto 63 10 false (n / 10) (d ∷ [])) one (digits_word 63 (n / 10) d [] one)

fits_where : (b : Bool) (v n : ℕ) → b ≡ nat_lt v (2 ^ 64) → cond b (Some v) None ≡ Some n → n < 2 ^ 64
fits_where true v n e h = let same : v ≡ n = cc in omega (arith, ltb-true v (2 ^ 64) (sym e), same)
fits_where false v n e h = cc

value_fits : (b : Bool) (v n : ℕ) → cond b (fitting v) None ≡ Some n → n < 2 ^ 64
value_fits true v n h = fits_where (nat_lt v (2 ^ 64)) v n refl h
value_fits false v n h = cc

run_fits : (b : Bool) (word : List ℕ) (n : ℕ) → cond b (value_of_digits word) None ≡ Some n → n < 2 ^ 64
run_fits true word n h = value_fits (nat_le 1 (length word) && nat_le (length word) 20) (value_after 0 word) n h
run_fits false word n h = cc

-- what is read fits 64 bits
pub number_of_fits : (word : List ℕ) (n : ℕ) → number_of word ≡ Some n → n < 2 ^ 64
number_of_fits word n h = run_fits (run_len word == length word) word n h
