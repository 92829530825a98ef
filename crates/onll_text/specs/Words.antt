-- The arguments of a line, as so many words of these kinds: the wrong count comes before any bad word, and of bad
-- words the first from the left.

use Rattle.std.specs.Prelude.{ℕ, List, [], ◌∷◌, Result, Ok, Err}
use Rattle.onll_words.specs.Numbers.{number_of}
use Rattle.onll_words.specs.Short.{ShortText, short_of}
use Rattle.onll_text.specs.declared.reason.Reason.{Reason}
use Rattle.onll_text.specs.declared.reason.Reason.TheVariants.{WrongCount, BadNumber, BadWord}
use Rattle.onll_text.specs.Refusal.{◌>>=◌, or_reason}

abbrev pub word_as_number : List ℕ → Result ℕ Reason
word_as_number word = or_reason BadNumber (number_of word)

abbrev pub no_word : List (List ℕ) → Result (Unit {0}) Reason
no_word [] = Ok tt
no_word (a ∷ more) = Err WrongCount

abbrev pub one_number : List (List ℕ) → Result ℕ Reason
one_number (a ∷ []) = word_as_number a
one_number _ = Err WrongCount

abbrev pub two_numbers : List (List ℕ) → Result (ℕ × ℕ) Reason
two_numbers (a ∷ b ∷ []) = word_as_number a >>= λ x. word_as_number b >>= λ y. Ok (x, y)
two_numbers _ = Err WrongCount

abbrev pub three_numbers : List (List ℕ) → Result (ℕ × ℕ × ℕ) Reason
three_numbers (a ∷ b ∷ c ∷ []) = word_as_number a >>= λ x. word_as_number b >>= λ y. word_as_number c >>= λ z. Ok (x, y, z)
three_numbers _ = Err WrongCount

abbrev pub four_numbers : List (List ℕ) → Result (ℕ × ℕ × ℕ × ℕ) Reason
four_numbers (a ∷ b ∷ c ∷ d ∷ []) =
    word_as_number a >>= λ x. word_as_number b >>= λ y. word_as_number c >>= λ z. word_as_number d >>= λ u.
    Ok (x, y, z, u)
four_numbers _ = Err WrongCount

abbrev pub word_as_short : List ℕ → Result ShortText Reason
word_as_short word = or_reason BadWord (short_of word)

abbrev pub one_short : List (List ℕ) → Result ShortText Reason
one_short (a ∷ []) = word_as_short a
one_short _ = Err WrongCount

abbrev pub two_shorts : List (List ℕ) → Result (ShortText × ShortText) Reason
two_shorts (a ∷ b ∷ []) = word_as_short a >>= λ k. word_as_short b >>= λ v. Ok (k, v)
two_shorts _ = Err WrongCount
