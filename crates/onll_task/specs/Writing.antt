-- The writing of files, and how it ends a call where it fails.

use Rattle.std.specs.Prelude.{ℕ, List, ◌≡◌, ◌⊎◌, true, Some, if◌then◌else◌}
use Rattle.std.specs.List.{AllByRecursion}
use Rattle.std.specs.Str.{bytes_eq}
use Rattle.onll_outside.specs.Views.{StoreView, Rose}
use Rattle.onll_outside.specs.declared.store.FaultKind.TheVariants as kinds
use Rattle.onll_areas.specs.Keeping.{OthersStay}
use Rattle.onll_open.specs.Files.{SameCounts}
use Rattle.onll_task.specs.declared.ending.Ending.{Ending}
use Rattle.onll_task.specs.declared.ending.Ending.TheVariants.{WriteFault}
use Rattle.onll_task.specs.Printed.{write_fault_text}

-- the store after these bytes were made the file of this name
abbrev pub written : StoreView → (name bytes : List ℕ) → StoreView
written store name bytes = record store { file = λ other. (if bytes_eq other name then Some bytes else store.file other) }

-- where the store tells its files, none changed
pub record FilesStay (old new : StoreView) : Type 0 where
  pub tells : new.tells ≡ old.tells
  pub file : old.tells ≡ true → (name : List ℕ) → new.file name ≡ old.file name

-- where the store tells its files, none changed but perhaps those of these names
pub record AllButStay (names : List (List ℕ)) (old new : StoreView) : Type 0 where
  pub tells : new.tells ≡ old.tells
  pub file : old.tells ≡ true → (other : List ℕ) → AllByRecursion (λ name. other ≡ name → ⊥) names → new.file other ≡ old.file other

-- these bytes were made the file of this name
pub record HasWritten (old new : StoreView) (name bytes : List ℕ) : Type 0 where
  pub files : FilesStay (written old name bytes) new
  pub counts : SameCounts old new

-- a write of the file failed: the store's count rose and this write is its last fault; no other file changed
pub record WriteFailed (store after : StoreView) (name : List ℕ) : Type 0 where
  pub rose : Rose store.faults after.faults
  pub last : after.last ≡ Some (record { kind = kinds.Write; name = name })
  pub others : OthersStay name store after

-- the file can't be written: a write of it failed, and this line says so
pub record Unwritten (store after : StoreView) (name text : List ℕ) : Type 0 where
  pub failed : WriteFailed store after name
  pub line : text ≡ write_fault_text name

-- a write of the file gave nothing: the file is as it was, or the write failed
abbrev pub WriteStops : StoreView → StoreView → List ℕ → Type 0
WriteStops store after name = FilesStay store after ⊎ WriteFailed store after name

-- a write of the file fails, and the call ends so
abbrev pub CannotWrite : StoreView → StoreView → List ℕ → Ending → List ℕ → Type 0
CannotWrite store after name WriteFault text = Unwritten store after name text
CannotWrite store after name ending text = ⊥
