-- What `checkpoint` leaves of the files, however it ends.

use Rattle.std.specs.Prelude.{ℕ, zero, suc, ◌+◌, ◌<◌, ◌≡◌, ◌⊎◌, List, [], ◌∷◌, Some, None, Ok}
use Rattle.std.specs.List.{AllByRecursion, flat_map}
use Rattle.onll_words.specs.Texts.{line_text}
use Rattle.onll_log.specs.Head.{head_for, head_line}
use Rattle.onll_text.specs.declared.any_object.AnyObject.{AnyObject}
use Rattle.onll_text.specs.Init.{init_of}
use Rattle.onll_text.specs.Kinds.{ObjectKind, on_object}
use Rattle.onll_outside.specs.Views.{StoreView}
use Rattle.onll_open.specs.Names.{log_name}
use Rattle.onll_task.specs.Reading.{FileIsTold}
use Rattle.onll_task.specs.Writing.{AllButStay}
use Rattle.onll_checkpoint.specs.Checkpoint.{CheckpointState}
use Rattle.onll_checkpoint.specs.Grammar.{checkpoint_in}
use Rattle.onll_areas.specs.Newest.{area_lines}
use Rattle.onll_eras.specs.EraJob.{area_of}
use Rattle.onll_eras.specs.Eras.{Era, next_area}
use Rattle.onll_eras.specs.Names.{EraNames, area_name, text_name, area_files}
use Rattle.onll_eras.specs.Restored.{Restores, TellLogs, era_in}

-- a name is none of these
abbrev pub IsNone : List (List ℕ) → List ℕ → Type 0
IsNone names name = AllByRecursion (λ other. name ≡ other → ⊥) names

-- neither the initial state nor a log of era 0 has the name of a file that is written for the era of this area
pub record AreNamesApart (names : EraNames) (area threads : ℕ) : Type 0 where
  pub init_apart : IsNone (area_files names.ckpt area threads) names.init
  pub logs_apart : (t : ℕ) → t < threads → IsNone (area_files names.ckpt area threads) (log_name names.logs t)

-- the lines of a log that has a header alone, of an object of this code whose initial state this text says
abbrev pub header_image : (code : ℕ) (text : List ℕ) (threads t : ℕ) → List (List ℕ)
header_image code text threads t = head_line (head_for 2 t threads code text) ∷ []

-- those of so many logs, from thread t on
abbrev pub header_images : (code : ℕ) → List ℕ → (threads t : ℕ) → ℕ → List (List (List ℕ))
header_images code text threads t zero = []
header_images code text threads t (suc more) = header_image code text threads t ∷ header_images code text threads (suc t) more

-- the area of a checkpoint holds it, the file of its era's text holds that, and its logs are begun and have no entry
pub record IsBegunEra (after : StoreView) (ckpt : List ℕ) (threads code : ℕ) (c : CheckpointState) : Type 0 where
  pub bytes : List ℕ
  pub told : FileIsTold after (area_name ckpt (area_of c)) bytes
  pub found : checkpoint_in (area_lines bytes) ≡ Some c
  pub text : FileIsTold after (text_name ckpt (area_of c)) c.text
  pub logs : TellLogs after (area_name ckpt (area_of c)) 0 (header_images code c.text threads 0 threads)

-- the state of an object of this code is printed so
pub record IsPrinted (k : ObjectKind) (code : ℕ) (s : k.State) (text : List ℕ) : Type 0 where
  pub code_is : code ≡ k.code
  pub printed : text ≡ flat_map line_text (k.wording.state_lines s)

-- the era after this one has begun, at this place, with this state as it is printed
pub record IsEraAfter (after : StoreView) (ckpt : List ℕ) (era : Era) (threads place : ℕ) (text : List ℕ) : Type 0 where
  pub checkpoint : CheckpointState
  pub code : ℕ
  pub number_is : checkpoint.number ≡ era.number + 1
  pub place_is : checkpoint.place ≡ place
  pub begun : IsBegunEra after ckpt threads code checkpoint
  pub object : AnyObject
  pub reads : init_of checkpoint.text ≡ Ok object
  pub printed : on_object (λ k s. IsPrinted k code s text) object

-- the named file is told, and no checkpoint is accepted in it as an area: so a device over it leaves it that was not kept, or was given
-- up before all of the checkpoint was durable
pub record HoldsNoCheckpoint (after : StoreView) (name : List ℕ) : Type 0 where
  pub bytes : List ℕ
  pub told : FileIsTold after name bytes
  pub none : checkpoint_in (area_lines bytes) ≡ None

-- What `checkpoint` leaves, however it ends: no files change but those of the next era. Its area is as it was, or holds no checkpoint, or
-- the next era has begun.
pub record LeavesEra (store after : StoreView) (ckpt : List ℕ) (era : Era) (threads place : ℕ) (text : List ℕ) : Type 0 where
  pub others : AllButStay (area_files ckpt (next_area era) threads) store after
  pub area : (after.file (area_name ckpt (next_area era)) ≡ store.file (area_name ckpt (next_area era)))
      ⊎ HoldsNoCheckpoint after (area_name ckpt (next_area era))
      ⊎ IsEraAfter after ckpt era threads place text

-- The era after the newest one has begun: the files give the same place and the same state, its number is one more, and the place is its
-- beginning. The file of its text holds that, and its logs are begun and have no entry.
pub record BeginsNext {store : StoreView} {names : EraNames} {threads place : ℕ} {text : List ℕ}
    (r : Restores store names threads place text) (after : StoreView) : Type 0 where
  pub restores : Restores after names threads place text
  pub number_is : (era_in restores).number ≡ (era_in r).number + 1
  pub place_is : (era_in restores).place ≡ place
  pub checkpoint : CheckpointState
  pub code : ℕ
  pub is_newest : (checkpoint.number ≡ (era_in restores).number) × (checkpoint.text ≡ (era_in restores).text)
  pub begun : IsBegunEra after names.ckpt threads code checkpoint
  pub images : restores.images ≡ header_images code checkpoint.text threads 0 threads
