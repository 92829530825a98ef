-- Files whose bytes are lines.

use Rattle.std.specs.Prelude.{ℕ, List, [], ◌≡◌, ◌++◌, ◌-◌, ◌^◌, ◌<◌, ◌≤◌, true, Option, Some, None, length, take}
use Rattle.std.specs.List.{AllByRecursion}
use Rattle.onll_pmem.specs.Device.{zero_line, line_at}
use Rattle.onll_outside.specs.Views.{StoreView, with_zeros, image_bytes}

-- a line of eight words of 64 bits
pub record IsWholeLine (line : List ℕ) : Type 0 where
  pub eight : length line ≡ 8
  pub words : AllByRecursion (λ w. w < 2 ^ 64) line

-- the last of these lines is not one of zeros
abbrev pub EndsInWords : List (List ℕ) → Type 0
EndsInWords lines = 0 < length lines → line_at lines (length lines - 1) ≡ zero_line → ⊥

-- whole lines, before zeros up to this many: no fewer would do, but one stays where there is no other line
pub record IsFileFront (front : List (List ℕ)) (count : ℕ) : Type 0 where
  pub each : AllByRecursion IsWholeLine front
  pub within : length front ≤ count
  pub empty : front ≡ [] → count ≡ 0
  pub least : 1 < length front → EndsInWords front

-- the same of the first lines of a file, while its end is not known: no line of zeros has to stay
pub record IsGathered (front : List (List ℕ)) (count : ℕ) : Type 0 where
  pub each : AllByRecursion IsWholeLine front
  pub within : length front ≤ count
  pub least : EndsInWords front

-- bytes of these lines and then of lines of zeros, this many in all; what follows is less than a line
pub record HasLines (bytes : List ℕ) (front : List (List ℕ)) (count : ℕ) : Type 0 where
  pub rest : List ℕ
  pub whole : bytes ≡ image_bytes (with_zeros front count) ++ rest
  pub short : length rest < 64

-- a file that is there has these lines in its first limit bytes
abbrev pub FrontHasLines : ℕ → Option (List ℕ) → List (List ℕ) → ℕ → Type 0
FrontHasLines limit None front count = ⊥
FrontHasLines limit (Some all) front count = HasLines (take limit all) front count

-- where the store tells its files, the named one is there and gives these lines
abbrev pub GivesLines : StoreView → List ℕ → ℕ → List (List ℕ) → ℕ → Type 0
GivesLines view name limit front count = view.tells ≡ true → FrontHasLines limit (view.file name) front count
