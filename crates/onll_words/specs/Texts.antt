use Rattle.std.specs.Prelude.{ℕ, Bool, true, false, List, [], ◌∷◌, ◌++◌, ◌≡◌, ◌+◌, not, if◌then◌else◌, length, filter, slice_index, ◌||◌, ◌==◌}
use Rattle.std.specs.List.{slice_split, list_all, flat_map}

-- A text is split at the byte 0x0A into lines, numbered from 1, and a line at blanks into words.

-- space, tab, carriage return
abbrev pub is_blank : ℕ → Bool
is_blank b = (b == 32) || (b == 9) || (b == 13)

abbrev pub is_line_end : ℕ → Bool
is_line_end b = b == 10

abbrev pub is_empty : List ℕ → Bool
is_empty xs = length xs == 0

-- the words of a line: the longest runs of bytes other than blanks
abbrev pub words_of : List ℕ → List (List ℕ)
words_of line = filter (λ w. not (is_empty w)) (slice_split is_blank line)

-- a last piece without a byte is no line
abbrev pub without_empty_rest : List (List ℕ) → List (List ℕ)
without_empty_rest [] = []
without_empty_rest (x ∷ []) = if is_empty x then [] else x ∷ []
without_empty_rest (x ∷ y ∷ more) = x ∷ without_empty_rest (y ∷ more)

-- the lines of a text, without their ends
abbrev pub lines_of : List ℕ → List (List ℕ)
lines_of text = without_empty_rest (slice_split is_line_end text)

-- a line and its number in the text
pub record Numbered : Type 0 where
  pub number : ℕ
  pub line : List ℕ

-- lines with their numbers, the first of them with this one
abbrev pub numbered : ℕ → List (List ℕ) → List Numbered
numbered n [] = []
numbered n (l ∷ ls) = record { number = n; line = l } ∷ numbered (n + 1) ls

-- the line has a word, and the first doesn't begin with '#'
abbrev pub says_something : List (List ℕ) → Bool
says_something [] = false
says_something (w ∷ ws) = not (slice_index w 0 == 35)

abbrev pub is_meaningful : Numbered → Bool
is_meaningful l = says_something (words_of l.line)

-- the lines of a text that aren't skipped
abbrev pub meaningful_lines : List ℕ → List Numbered
meaningful_lines text = filter is_meaningful (numbered 1 (lines_of text))

-- words with one space between
abbrev pub joined : List (List ℕ) → List ℕ
joined [] = []
joined (w ∷ []) = w
joined (w ∷ v ∷ ws) = w ++ 32 ∷ joined (v ∷ ws)

-- the line of these words, with its end
abbrev pub line_text : List (List ℕ) → List ℕ
line_text ws = joined ws ++ 10 ∷ []

-- a byte that can stand in a word
abbrev pub is_word_byte : ℕ → Bool
is_word_byte b = not (is_blank b || is_line_end b)

-- the text is one word: it has a byte, and no blank or line end
pub record IsWord (word : List ℕ) : Type 0 where
  pub some : is_empty word ≡ false
  pub bytes : list_all is_word_byte word ≡ true

-- each is one word
abbrev pub AreWords : List (List ℕ) → Type 0
AreWords [] = Unit {0}
AreWords (w ∷ ws) = IsWord w × AreWords ws

-- each is a line, with no line end
abbrev pub AreTextLines : List (List ℕ) → Type 0
AreTextLines [] = Unit {0}
AreTextLines (l ∷ ls) = (list_all (λ b. not (is_line_end b)) l ≡ true) × AreTextLines ls

-- each is the words of a line that isn't skipped
abbrev pub AreMeaningful : List (List (List ℕ)) → Type 0
AreMeaningful [] = Unit {0}
AreMeaningful (ws ∷ lines) = AreWords ws × (says_something ws ≡ true) × AreMeaningful lines

-- equal texts have equal lines
abbrev pub TextDeterminedLaw : Type 0
TextDeterminedLaw = (lines others : List (List (List ℕ))) → AreMeaningful lines → AreMeaningful others
    → flat_map line_text lines ≡ flat_map line_text others → lines ≡ others
