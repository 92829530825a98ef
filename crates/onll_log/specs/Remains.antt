use Rattle.std.specs.Prelude.{ℕ, ◌≡◌, List, ◌++◌, length, take, drop, Some}
use Rattle.onll_pmem.specs.Device.{zero_lines, FillsLines}
use Rattle.onll_model.specs.Segment.{Segment}
use Rattle.onll_log.specs.declared.head.LogHead.{LogHead}
use Rattle.onll_log.specs.Encoding.{entry_lines, FitsEntry}
use Rattle.onll_log.specs.Grammar.{used_with, format_in}
use Rattle.onll_log.specs.Torn.{Among, Holds}
use Rattle.onll_log.specs.Log.{EndsInZeros}

-- What an append that came to no end leaves after the used lines of an image.

-- the lines of an image after those that its entries use
abbrev pub unused : LogHead → List Segment → List (List ℕ) → List (List ℕ)
unused head ss image = drop (used_with (Some head) ss) image

-- an entry of format 2 that could stand there, and zeros after it, of which some word is missing
pub record AreRemainsOf (head : LogHead) (ss : List Segment) (s : Segment) (zeros : ℕ) (image : List (List ℕ)) : Type 0 where
  pub format : head.format ≡ 2
  pub fits : FitsEntry head.threads s
  pub among : Among (entry_lines head (length ss) s ++ zero_lines zeros) (unused head ss image)
  pub torn : unused head ss image ≡ entry_lines head (length ss) s ++ zero_lines zeros → ⊥

abbrev pub HasRemains : LogHead → List Segment → List (List ℕ) → Type 0
HasRemains head ss image = (s : Segment) × (zeros : ℕ) × AreRemainsOf head ss s zeros image

-- the same image with zeros for some of the words after the used lines
pub record IsWiped (head : LogHead) (ss : List Segment) (image wiped : List (List ℕ)) : Type 0 where
  pub used : take (used_with (Some head) ss) wiped ≡ take (used_with (Some head) ss) image
  pub rest : FillsLines (unused head ss wiped) (unused head ss image)

-- lines hold a log, and only zeros after it
pub record IsCut (head : LogHead) (ss : List Segment) (lines : List (List ℕ)) : Type 0 where
  pub holds : Holds lines head ss
  pub rest : EndsInZeros lines (record { head = Some head; entries = ss })

-- The used lines of an image with a head hold what the image holds, and are read by the same format: the lines after them decide
-- nothing.
pub record HoldsAlone (head : LogHead) (ss : List Segment) (image used : List (List ℕ)) : Type 0 where
  pub holds : Holds used head ss
  pub format : format_in used ≡ format_in image
