-- Laws over the files of areas, whatever code keeps and reads them.

use Rattle.std.specs.Prelude.{◌≡◌, List, ℕ, length, Some, None}
use Rattle.onll_outside.specs.Views.{AreZeros, image_bytes}
use Rattle.onll_checkpoint.specs.Checkpoint.{CheckpointState, FitsCheckpoint}
use Rattle.onll_checkpoint.specs.Text.{lines_for}
use Rattle.onll_checkpoint.specs.Grammar.{checkpoint_image, checkpoint_in}
use Rattle.onll_areas.specs.Newest.{area_lines}

-- zeros hold no checkpoint
abbrev pub BlankAreaLaw : Type 0
BlankAreaLaw = (bytes : List ℕ) → AreZeros bytes → checkpoint_in (area_lines bytes) ≡ None

-- the file of a checkpoint's lines holds that checkpoint
abbrev pub WholeAreaLaw : Type 0
WholeAreaLaw = (c : CheckpointState) → FitsCheckpoint c
    → checkpoint_in (area_lines (image_bytes (checkpoint_image c (lines_for (length c.text))))) ≡ Some c
