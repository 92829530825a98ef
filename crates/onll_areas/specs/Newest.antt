-- The two areas of checkpoints, and the newest checkpoint in them.

use Rattle.std.specs.Prelude.{ℕ, ◌≡◌, ◌==◌, ◌%◌, if◌then◌else◌, List, take, nat_lt, Option, Some, None}
use Rattle.onll_log.specs.ImageFile.{whole_lines}
use Rattle.onll_outside.specs.Views.{StoreView, FileHolds}
use Rattle.onll_checkpoint.specs.Checkpoint.{CheckpointState}
use Rattle.onll_checkpoint.specs.Grammar.{checkpoint_in}

-- how many bytes of an area's file are read at most: the greatest checkpoint's
abbrev pub longest_area : ℕ
longest_area = 1048640

-- the lines of an area's file
abbrev pub area_lines : List ℕ → List (List ℕ)
area_lines bytes = whole_lines (take longest_area bytes)

-- the bytes of an area's file, where the store tells it, and the checkpoint that they hold
pub record AreaHolds (store : StoreView) (name : List ℕ) (found : Option CheckpointState) : Type 0 where
  pub bytes : List ℕ
  pub held : FileHolds store name bytes
  pub found_is : found ≡ checkpoint_in (area_lines bytes)

-- a checkpoint counts only in the area of its number's parity, 0 or 1
abbrev pub counting : ℕ → Option CheckpointState → Option CheckpointState
counting area None = None
counting area (Some c) = if c.number % 2 == area then Some c else None

-- the one with the greater number
abbrev pub newer : Option CheckpointState → Option CheckpointState → Option CheckpointState
newer None other = other
newer (Some c) None = Some c
newer (Some c) (Some d) = if nat_lt c.number d.number then Some d else Some c

-- the newest of what the two areas hold, of those that count
abbrev pub newest_of : (even odd : Option CheckpointState) → Option CheckpointState
newest_of even odd = newer (counting 0 even) (counting 1 odd)

-- the newest checkpoint of areas with these bytes
abbrev pub newest : (even odd : List ℕ) → Option CheckpointState
newest even odd = newest_of (checkpoint_in (area_lines even)) (checkpoint_in (area_lines odd))
