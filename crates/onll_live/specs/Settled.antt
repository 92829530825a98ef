-- What is left of an area that is made durable again, and of the other.
use Rattle.std.specs.Prelude.{ℕ, List, ◌≡◌, ◌-◌, ◌%◌, ◌<◌, ◌⊎◌, true, Option, Some, None}
use Rattle.onll_outside.specs.Views.{StoreView, AreZeros, image_bytes}
use Rattle.onll_checkpoint.specs.Checkpoint.{CheckpointState}
use Rattle.onll_checkpoint.specs.Grammar.{checkpoint_in}
use Rattle.onll_areas.specs.Newest.{area_lines}
use Rattle.onll_live.specs.Eras.{AreaGives, area_name}

-- the file of this name holds the checkpoint still, if it held one
abbrev pub KeepsCheckpoint : StoreView → StoreView → List ℕ → Type 0
KeepsCheckpoint old new file = (c : CheckpointState) → AreaGives old file (Some c) → AreaGives new file (Some c)

-- the file of this name holds what it held, a checkpoint or none
abbrev pub KeepsArea : StoreView → StoreView → List ℕ → Type 0
KeepsArea old new file = (found : Option CheckpointState) → AreaGives old file found → AreaGives new file found

-- ---- where all was done
-- where the store tells its files, the one of this name was written once more: it is the lines that were read of it, and nothing else
pub record IsRewritten (old new : StoreView) (file : List ℕ) : Type 0 where
  pub bytes : List ℕ
  pub was : old.tells ≡ true → old.file file ≡ Some bytes
  pub now : old.tells ≡ true → new.file file ≡ Some (image_bytes (area_lines bytes))

-- a file that is not there, holds zeros alone, or holds a checkpoint
abbrev pub IsUntornFile : Option (List ℕ) → Type 0
IsUntornFile None = Unit {0}
IsUntornFile (Some bytes) = AreZeros bytes ⊎ ((c : CheckpointState) × (checkpoint_in (area_lines bytes) ≡ Some c))

-- so is the file of this name, where the store tells its files
abbrev pub IsUntorn : StoreView → List ℕ → Type 0
IsUntorn store file = store.tells ≡ true → IsUntornFile (store.file file)

-- the area of the era of this number was written once more, and no save is torn in the other
pub record AreasSettled (old new : StoreView) (name : List ℕ) (number : ℕ) : Type 0 where
  pub rewritten : 0 < number → IsRewritten old new (area_name name (number % 2))
  pub untorn : IsUntorn new (area_name name (1 - number % 2))
