-- The reading of one text by its grammar, and how it ends a call where it gives no value.

use Rattle.std.specs.Prelude.{ℕ, List, ◌≡◌, ◌+◌, ◌⊎◌, true, Some, Result, Ok, Err, take}
use Rattle.onll_log.specs.ImageFile.{image_lines}
use Rattle.onll_text.specs.Refusal.{Refusal}
use Rattle.onll_text.specs.Script.{longest_text}
use Rattle.onll_outside.specs.Views.{StoreView, FileHolds, Rose}
use Rattle.onll_outside.specs.declared.store.FaultKind.TheVariants as kinds
use Rattle.onll_task.specs.declared.ending.Ending.{Ending}
use Rattle.onll_task.specs.declared.ending.Ending.TheVariants.{ReadFault}
use Rattle.onll_task.specs.Printed.{refusal_text, read_fault_text}

-- the named file is told, and has these bytes
pub record FileIsTold (store : StoreView) (name bytes : List ℕ) : Type 0 where
  pub tells : store.tells ≡ true
  pub file : store.file name ≡ Some bytes

-- the text is what the named file holds, or its front with one byte that is too many
pub record IsCutText (store : StoreView) (name text : List ℕ) : Type 0 where
  pub bytes : List ℕ
  pub held : FileHolds store name bytes
  pub cut : (text ≡ bytes) ⊎ (text ≡ take (longest_text + 1) bytes)

-- the file is read as this value
pub record Reads {A : Type 0} (store : StoreView) (grammar : List ℕ → Result A Refusal) (name : List ℕ) (value : A) : Type 0 where
  pub bytes : List ℕ
  pub held : FileHolds store name bytes
  pub accepted : grammar bytes ≡ Ok value

-- the file has these bytes, and is read as this value
pub record ReadsWhole {A : Type 0} (store : StoreView) (grammar : List ℕ → Result A Refusal) (name bytes : List ℕ)
    (value : A) : Type 0 where
  pub held : FileHolds store name bytes
  pub accepted : grammar bytes ≡ Ok value

-- the named file holds an image with these lines
pub record HoldsImage (store : StoreView) (name : List ℕ) (lines : List (List ℕ)) : Type 0 where
  pub bytes : List ℕ
  pub held : FileHolds store name bytes
  pub image : lines ≡ image_lines bytes

-- the file is outside the grammar, and this line says so
pub record RefusesFile {A : Type 0} (store : StoreView) (grammar : List ℕ → Result A Refusal) (name text : List ℕ) : Type 0 where
  pub bytes : List ℕ
  pub refusal : Refusal
  pub held : FileHolds store name bytes
  pub outside : grammar bytes ≡ Err refusal
  pub line : text ≡ refusal_text name refusal

-- the file can't be read: the store's count rose and this read is its last fault; this line says so
pub record Unread (store after : StoreView) (name text : List ℕ) : Type 0 where
  pub rose : Rose store.faults after.faults
  pub last : after.last ≡ Some (record { kind = kinds.Read; name = name })
  pub line : text ≡ read_fault_text name

-- a read of the file fails, and the call ends so
abbrev pub CannotRead : StoreView → StoreView → List ℕ → Ending → List ℕ → Type 0
CannotRead store after name ReadFault text = Unread store after name text
CannotRead store after name ending text = ⊥
