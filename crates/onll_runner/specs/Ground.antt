-- What scripts are run over: the logs of a name, what these hold, and how many lines their devices get.

use Rattle.std.specs.Prelude.{ℕ, ◌≡◌, ◌≤◌, ◌+◌, ◌*◌, max, List, [], ◌∷◌, length, map, IsSome, Ok, Some}
use Rattle.std.specs.List.{All, AllByRecursion}
use Rattle.onll_model.specs.declared.call.Call.{Call}
use Rattle.onll_model.specs.declared.node.Node.{Node}
use Rattle.onll_model.specs.Object.{Behaviour}
use Rattle.onll_model.specs.Calls.{updates_in}
use Rattle.onll_log.specs.declared.head.LogHead.{LogHead}
use Rattle.onll_log.specs.Grammar.{Content, content_of}
use Rattle.onll_log.specs.ImageFile.{longest_image}
use Rattle.onll_log.specs.Tested.{used_in}
use Rattle.onll_merge.specs.declared.counts.LogCounts.{LogCounts}
use Rattle.onll_merge.specs.Merge.{merge}
use Rattle.onll_merge.specs.Recovered.{Recovered, log_counts}
use Rattle.onll_outside.specs.Views.{StoreView}
use Rattle.onll_log.specs.Head.{AreHeads}
use Rattle.onll_run.specs.Ran.{HaveNumbers}
use Rattle.onll_open.specs.Devices.{fronts_by}
use Rattle.onll_open.specs.Files.{FilesBegin}

-- a log that uses so many lines has room in a file that is read for an entry of so many lines for each update
abbrev pub FitsIn : (entry used updates : ℕ) → Type 0
FitsIn entry used updates = 64 * (max 1 used + entry * updates) ≤ longest_image

-- the same of each log
abbrev pub AreFitting : {State Op Query Reply : Type 0} → ℕ → List LogCounts → List (List (Call State Op Query Reply)) → Type 0
AreFitting entry [] [] = Unit {0}
AreFitting entry (log ∷ logs) (script ∷ scripts) = FitsIn entry log.lines (updates_in script) × AreFitting entry logs scripts
AreFitting entry logs scripts = ⊥

-- The lines of each log's device, among so many threads: those that the log uses, or the header's, and those of the longest entry for
-- each update; and no fewer than its image has.
abbrev pub lines_over : {State Op Query Reply : Type 0} → ℕ → List LogCounts → List ℕ → List (List (Call State Op Query Reply)) → List ℕ
lines_over threads (log ∷ logs) (count ∷ counts) (script ∷ scripts) =
    max (max 1 log.lines + (threads + 1) * updates_in script) count ∷ lines_over threads logs counts scripts
lines_over threads logs counts scripts = []

-- The logs of this name hold one trace, whose rows are operations, and leave each script numbers and room. Of their images these lines
-- are kept, which decide what they hold, and so many lines each image has.
pub record IsGround {State Op Query Reply : Type 0} (b : Behaviour State Op Query Reply) (logs : List ℕ) (heads : List LogHead)
    (found : Recovered) (images : List (List (List ℕ))) (counts : List ℕ) (scripts : List (List (Call State Op Query Reply)))
    (store : StoreView) : Type 0 where
  pub held : List Content
  pub contents : map content_of images ≡ map Some held
  pub counts_are : found.logs ≡ map log_counts held
  pub merged : merge heads held ≡ Ok found.nodes
  pub operations : AllByRecursion (λ (n : Node). IsSome (b.op_at n.row)) found.nodes
  pub many : length heads ≡ length scripts
  pub as_many : length images ≡ length scripts
  pub counted : length counts ≡ length scripts
  pub heads_are : AreHeads (length scripts) 0 heads
  pub numbers : HaveNumbers found.nodes 0 scripts
  pub fitting : AreFitting (length scripts + 1) found.logs scripts
  pub used : AllByRecursion (λ image. length image ≤ used_in (content_of image)) images
  pub few : All (λ count. 64 * count ≤ longest_image) counts
  pub begins : FilesBegin logs 0 (fronts_by found.logs images) store
