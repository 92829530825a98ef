use Rattle.std.specs.Prelude.{ℕ, ◌≡◌, List, [], ◌∷◌, ◌++◌, length, Some}
use Rattle.std.specs.List.{AllByRecursion}
use Rattle.onll_pmem.specs.Device.{zero_lines, FillsLines}
use Rattle.onll_model.specs.Segment.{Segment}
use Rattle.onll_log.specs.declared.head.LogHead.{LogHead}
use Rattle.onll_log.specs.Encoding.{log_lines}
use Rattle.onll_log.specs.Grammar.{content_of}

-- What may stand in a log whose last append came to no end.

-- eight words
abbrev pub IsLine : List ℕ → Type 0
IsLine line = length line ≡ 8

abbrev pub AreLines : List (List ℕ) → Type 0
AreLines lines = AllByRecursion IsLine lines

-- each word of the second is zero or the word of the first, the whole
abbrev pub Among : List (List ℕ) → List (List ℕ) → Type 0
Among whole lines = FillsLines lines whole

-- the lines of a log with these entries, and this many lines of zeros after them
abbrev pub log_image : LogHead → List Segment → ℕ → List (List ℕ)
log_image head ss zeros = log_lines head ss ++ zero_lines zeros

-- an image is a log with this head, and holds these entries
abbrev pub Holds : List (List ℕ) → LogHead → List Segment → Type 0
Holds image head ss = content_of image ≡ Some (record { head = Some head; entries = ss })

-- an image holds an entry more exactly where it is the whole
pub record TornOrWhole (head : LogHead) (ss : List Segment) (s : Segment) (whole image : List (List ℕ)) : Type 0 where
  pub appended : image ≡ whole → Holds image head (ss ++ s ∷ [])
  pub torn : (image ≡ whole → ⊥) → Holds image head ss
