-- The text of an era: a line that says which it is, which is skipped when the text is read, and then a state as it is printed.

use Rattle.std.specs.Prelude.{ℕ, List, [], ◌∷◌, ◌++◌, codes, decimal}
use Rattle.std.specs.List.{flat_map}
use Rattle.onll_words.specs.Texts.{line_text}

-- the line of an era: its number, and how many updates the eras before it had
abbrev pub era_words : ℕ → ℕ → List (List ℕ)
era_words number place = codes "#" ∷ codes "checkpoint" ∷ decimal number ∷ decimal place ∷ []

-- that line before the lines of a state
abbrev pub era_text : ℕ → ℕ → List (List (List ℕ)) → List ℕ
era_text number place lines = line_text (era_words number place) ++ flat_map line_text lines
