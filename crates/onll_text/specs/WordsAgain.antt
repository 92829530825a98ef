-- What was read as a number or a short text reads again where it is printed, and is short there.

use Rattle.std.proofs.Common.{ℕ, Bool, true, false, [], ◌∷◌, ◌≡◌, ◌^◌, ◌<◌, ◌≤◌, cond, length, decimal, arith, Result, Ok, Err, IfOk}
use Rattle.std.proofs.lemmas.Fmt.{length-decimal-le}
use Rattle.onll_words.specs.Short.{ShortText, short_of-bytes}
use Rattle.onll_words.proofs.Decimals.{number_of-decimal}
use Rattle.onll_text.specs.declared.reason.Reason.{Reason}
use Rattle.onll_text.specs.Refusal.{◌>>=◌, at_line}
use Rattle.onll_text.specs.Words.{word_as_number, word_as_short, one_number, two_numbers, four_numbers, two_shorts}

-- ---- what holds of all that a reader accepts
module _ {A E : Type 0} where
  -- where something follows, of all that this makes of it
  pub if_ok_next : {B : Type 0} (v : Result A E) (f : A → Result B E) (P : A → Type 0) (Q : B → Type 0) → IfOk v P
      → ((x : A) → P x → IfOk (f x) Q) → IfOk (v >>= f) Q
  if_ok_next (Ok x) f P Q h g = g x h
  if_ok_next (Err e) f P Q h g = tt

  pub if_ok_either : (test : Bool) (v w : Result A E) (P : A → Type 0) → IfOk v P → IfOk w P → IfOk (cond test v w) P
  if_ok_either true v w P h g = h
  if_ok_either false v w P h g = g

  -- nothing is said
  pub if_ok_any : (v : Result A E) → IfOk v (λ x. Unit {0})
  if_ok_any (Ok x) = tt
  if_ok_any (Err e) = tt

pub if_ok_line : {A : Type 0} (line : ℕ) (v : Result A Reason) (P : A → Type 0) → IfOk v P → IfOk (at_line line v) P
if_ok_line line (Ok x) P h = h
if_ok_line line (Err e) P h = tt

-- ---- what is read fits 64 bits
abbrev pub IsNumber : ℕ → Type 0
IsNumber n = n < 2 ^ 64

-- ---- numbers that are written in decimal are read back, and so are short texts
pub decimal_reads : (n : ℕ) → n < 2 ^ 64 → word_as_number (decimal n) ≡ Ok n
decimal_reads n h = simp number_of-decimal

pub one_number-decimal : (n : ℕ) → n < 2 ^ 64 → one_number (decimal n ∷ []) ≡ Ok n
one_number-decimal n h = simp number_of-decimal

pub two_numbers-decimal : (a b : ℕ) → a < 2 ^ 64 → b < 2 ^ 64 → two_numbers (decimal a ∷ decimal b ∷ []) ≡ Ok (a, b)
two_numbers-decimal a b h i = simp number_of-decimal

pub four_numbers-decimal : (a b c d : ℕ) → a < 2 ^ 64 → b < 2 ^ 64 → c < 2 ^ 64 → d < 2 ^ 64
    → four_numbers (decimal a ∷ decimal b ∷ decimal c ∷ decimal d ∷ []) ≡ Ok (a, b, c, d)
four_numbers-decimal a b c d h i j k = simp number_of-decimal

pub short_reads : (word : ShortText) → word_as_short word.bytes ≡ Ok word
short_reads word = simp short_of-bytes

pub two_shorts-bytes : (k v : ShortText) → two_shorts (k.bytes ∷ v.bytes ∷ []) ≡ Ok (k, v)
two_shorts-bytes k v = simp short_of-bytes

-- ---- lengths
pub length-decimal : (n : ℕ) → n < 2 ^ 64 → length (decimal n) ≤ 20
length-decimal n h = length-decimal-le 20 n (omega arith) (omega arith) h
