-- Lines that are read back from the bytes of their file.

use Rattle.std.specs.Prelude.{ℕ, List, ◌≤◌, ◌*◌, length}
use Rattle.std.specs.List.{AllByRecursion}
use Rattle.onll_log.specs.ImageFile.{longest_image}
use Rattle.onll_outside.specs.LineFiles.{IsWholeLine}

-- lines of a log's file: all whole, and no more than are read
pub record FitFile (lines : List (List ℕ)) : Type 0 where
  pub each : AllByRecursion IsWholeLine lines
  pub few : 64 * length lines ≤ longest_image
