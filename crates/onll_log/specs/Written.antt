-- What a log writes, as lines.

use Rattle.std.specs.Prelude.{ℕ, ◌≡◌, ◌≤◌, List, [], ◌++◌, length, drop, Some}
use Rattle.onll_pmem.specs.Device.{zero_lines}
use Rattle.onll_model.specs.Segment.{Segment}
use Rattle.onll_log.specs.declared.head.LogHead.{LogHead}
use Rattle.onll_log.specs.Head.{FitsHead}
use Rattle.onll_log.specs.Encoding.{log_lines, FitEntries}
use Rattle.onll_log.specs.Grammar.{entries_from, used_with}

-- an image is written: the lines of a log with this head and these entries, and then lines where no entry begins
pub record IsWritten (image : List (List ℕ)) (head : LogHead) (ss : List Segment) : Type 0 where
  pub fits_head : FitsHead head
  pub fit_entries : FitEntries head.threads ss
  pub lines : image ≡ log_lines head ss ++ drop (used_with (Some head) ss) image
  pub ended : entries_from head (length ss) 0 (drop (used_with (Some head) ss) image) ≡ []

-- an image is the empty log: lines of zeros, at least one, without an entry
pub record IsEmptyLog (image : List (List ℕ)) (ss : List Segment) : Type 0 where
  pub some_lines : 1 ≤ length image
  pub zeros : image ≡ zero_lines (length image)
  pub no_entries : ss ≡ []
