-- What the newest era gives by the files that a store tells: a place, and the state there as it is printed.

use Rattle.std.specs.Prelude.{ℕ, suc, ◌+◌, ◌^◌, ◌<◌, ◌≡◌, List, [], ◌∷◌, length, Option, Ok}
use Rattle.std.specs.List.{flat_map}
use Rattle.onll_words.specs.Texts.{line_text}
use Rattle.onll_model.specs.Trace.{state_after}
use Rattle.onll_log.specs.ImageFile.{image_lines}
use Rattle.onll_merge.specs.Recovered.{Recovered}
use Rattle.onll_text.specs.declared.any_object.AnyObject.{AnyObject}
use Rattle.onll_text.specs.Init.{init_of}
use Rattle.onll_text.specs.Kinds.{ObjectKind, on_object}
use Rattle.onll_outside.specs.Views.{StoreView}
use Rattle.onll_open.specs.Names.{log_name}
use Rattle.onll_task.specs.Reading.{FileIsTold}
use Rattle.onll_task.specs.Recovering.{recovery_of}
use Rattle.onll_areas.specs.Newest.{newest}
use Rattle.onll_checkpoint.specs.Checkpoint.{CheckpointState}
use Rattle.onll_eras.specs.EraJob.{started}
use Rattle.onll_eras.specs.Eras.{Era, era_of}
use Rattle.onll_eras.specs.Names.{EraNames, area_name}

-- the named file is told, and these are its lines as an image
pub record TellsLines (store : StoreView) (name : List ℕ) (lines : List (List ℕ)) : Type 0 where
  pub bytes : List ℕ
  pub told : FileIsTold store name bytes
  pub image : lines ≡ image_lines bytes

-- so are the files of the logs of threads, from thread t on
abbrev pub TellLogs : StoreView → List ℕ → ℕ → List (List (List ℕ)) → Type 0
TellLogs store logs t [] = Unit {0}
TellLogs store logs t (image ∷ images) = TellsLines store (log_name logs t) image × TellLogs store logs (suc t) images

-- these images of an era's logs give, over its initial state, this place, and this state as it is printed
pub record RestoredTo (k : ObjectKind) (era : Era) (s : k.State) (images : List (List (List ℕ))) (place : ℕ) (text : List ℕ)
    : Type 0 where
  pub recovered : Recovered
  pub gives : recovery_of k era.text images ≡ Ok recovered
  pub place_is : place ≡ era.place + length recovered.nodes
  pub within : place < 2 ^ 64
  pub state : text ≡ flat_map line_text (k.wording.state_lines (state_after k.means s recovered.nodes))

-- the files of these names give this place, and this state as it is printed, from the logs of so many threads
pub record Restores (store : StoreView) (names : EraNames) (threads place : ℕ) (text : List ℕ) : Type 0 where
  pub bytes : List ℕ
  pub first : AnyObject
  pub init_told : FileIsTold store names.init bytes
  pub init_read : init_of bytes ≡ Ok first
  pub even : List ℕ
  pub odd : List ℕ
  pub even_told : FileIsTold store (area_name names.ckpt 0) even
  pub odd_told : FileIsTold store (area_name names.ckpt 1) odd
  pub object : AnyObject
  pub began : started first (newest even odd) ≡ Ok object
  pub images : List (List (List ℕ))
  pub logs_told : TellLogs store (era_of names bytes (newest even odd)).logs 0 images
  pub many : length images ≡ threads
  pub restored : on_object (λ k s. RestoredTo k (era_of names bytes (newest even odd)) s images place text) object

-- the newest checkpoint, and its era
abbrev pub newest_by : {store : StoreView} {names : EraNames} {threads place : ℕ} {text : List ℕ}
    → Restores store names threads place text → Option CheckpointState
newest_by r = newest r.even r.odd

abbrev pub era_in : {store : StoreView} {names : EraNames} {threads place : ℕ} {text : List ℕ}
    → Restores store names threads place text → Era
era_in {names = names} r = era_of names r.bytes (newest_by r)
