-- The fields of a line: what stands between its single spaces.

use Rattle.std.specs.Prelude.{ℕ, Bool, true, false, List, [], ◌∷◌, ◌+◌, Option, Some, None, decimal, take, drop, length, position, not, ◌==◌, ◌&&◌, if◌then◌else◌, nat_eq}
use Rattle.std.specs.List.{starts_with}
use Rattle.std.specs.Str.{bytes_eq}
use Rattle.onll_words.specs.Texts.{is_word_byte}
use Rattle.onll_words.specs.Numbers.{number_of}

-- what follows where this was read, and otherwise nothing
infixl 10 ◌>?◌
abbrev pub ◌>?◌ : {A B : Type 0} → Option A → (A → Option B) → Option B
None >? f = None
(Some x) >? f = f x

-- this value where the test holds
abbrev pub some_if : {A : Type 0} → Bool → A → Option A
some_if test x = if test then Some x else None

abbrev pub is_space : ℕ → Bool
is_space b = b == 32

-- a field, and what follows the space after it
abbrev pub cut_at : List ℕ → Option ℕ → Option (List ℕ × List ℕ)
cut_at line None = None
cut_at line (Some i) = Some (take i line, drop (i + 1) line)

abbrev pub next_field : List ℕ → Option (List ℕ × List ℕ)
next_field line = cut_at line (position is_space line)

-- what follows this field and its space
abbrev pub after_word : List ℕ → List ℕ → Option (List ℕ)
after_word word line = next_field line >? λ f. some_if (bytes_eq f.0 word) f.1

-- a number in its shortest form
abbrev pub number_word : List ℕ → Option ℕ
number_word word = number_of word >? λ n. some_if (bytes_eq (decimal n) word) n

-- a number, and what follows the space after it
abbrev pub number_field : List ℕ → Option (ℕ × List ℕ)
number_field line = next_field line >? λ f. number_word f.0 >? λ n. Some (n, f.1)

-- what follows these bytes
abbrev pub after_text : List ℕ → List ℕ → Option (List ℕ)
after_text front text = some_if (starts_with nat_eq text front) (drop (length front) text)

-- a byte before what stands around the last space
abbrev pub cut_last : ℕ → List ℕ → Option (List ℕ × List ℕ) → Option (List ℕ × List ℕ)
cut_last b bs (Some f) = Some (b ∷ f.0, f.1)
cut_last b bs None = some_if (is_space b) ([], bs)

-- what stands before the last space and after it
abbrev pub last_field : List ℕ → Option (List ℕ × List ℕ)
last_field [] = None
last_field (b ∷ bs) = cut_last b bs (last_field bs)

-- words with one space between, and, after a space or at the front, at least one
abbrev pub are_words : Bool → List ℕ → Bool
are_words begins [] = not begins
are_words begins (b ∷ bs) = if is_space b then not begins && are_words true bs else is_word_byte b && are_words false bs
