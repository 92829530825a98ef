-- What `restore` and `checkpoint` promise beside, of the files that a store tells.

use Rattle.std.specs.Prelude.{ℕ, ◌≡◌, ◌+◌, ◌^◌, ◌<◌, ◌⊎◌, true, List, Some}
use Rattle.onll_outside.specs.Views.{Puts, counted}
use Rattle.onll_task.specs.declared.ending.Ending.TheVariants.{Done}
use Rattle.onll_eras.specs.Begun.{AreNamesApart, BeginsNext}
use Rattle.onll_eras.specs.EndingLaws.{HasFenceFault, HasFileFault}
use Rattle.onll_eras.specs.EraReports.{checkpoint_text}
use Rattle.onll_eras.specs.Eras.{next_area}
use Rattle.onll_eras.specs.Laws.{SaysPlace}
use Rattle.onll_eras.specs.Names.{EraNames}
use Rattle.onll_eras.specs.Restored.{Restores, era_in}
use Rattle.onll_jobs.specs.Command.{Restore, Checkpoint, form_of}
use Rattle.onll_jobs.specs.Says.{NoneRose, SaysThis, SinkFailed}
use Rattle.onll_jobs.specs.Seen.{Seen}

-- ---- restore
-- what was put is the place and the state that the files give
pub record HasRestored (seen : Seen) (names : EraNames) (threads : ℕ) : Type 0 where
  pub place : ℕ
  pub text : List ℕ
  pub restores : Restores seen.store names threads place text
  pub said : List ℕ
  pub place_said : SaysPlace place text said
  pub put : Puts seen.sink seen.sink_after said

-- this place and this state are put, or memory could not be had
pub record RestoresThis (seen : Seen) (status place : ℕ) (text : List ℕ) : Type 0 where
  pub said : List ℕ
  pub place_said : SaysPlace place text said
  pub says : SaysThis seen status Done said

-- What `restore` prints is what the files of the newest era give, and where they give something and no call fails, that is printed.
pub record RestorePromises (seen : Seen) (status : ℕ) : Type 0 where
  pub printed : (names : EraNames) (threads : ℕ) → form_of seen.words ≡ Some (Restore names threads) → seen.store.tells ≡ true
      → status ≡ 0 → HasRestored seen names threads
  pub found : (names : EraNames) (threads place : ℕ) (text : List ℕ) → form_of seen.words ≡ Some (Restore names threads)
      → Restores seen.store names threads place text → NoneRose seen → RestoresThis seen status place text

-- ---- checkpoint
-- The checkpoint of the place and the state that the files gave was put. Where the names are apart, the era after theirs has begun, with
-- this place and this state and no entry.
pub record HasCheckpoint (seen : Seen) (names : EraNames) (threads : ℕ) : Type 0 where
  pub place : ℕ
  pub text : List ℕ
  pub was : Restores seen.store names threads place text
  pub put : Puts seen.sink seen.sink_after (checkpoint_text ((era_in was).number + 1) place text)
  pub begins : AreNamesApart names (next_area (era_in was)) threads → BeginsNext was seen.store_after

-- the line of a fence that failed was put
pub record HasPutFence (seen : Seen) (threads : ℕ) : Type 0 where
  pub said : List ℕ
  pub fault : HasFenceFault seen.store seen.store_after threads said
  pub put : Puts seen.sink seen.sink_after said

-- the line of a file that could not be made was put
pub record HasPutFile (seen : Seen) : Type 0 where
  pub said : List ℕ
  pub fault : HasFileFault seen.store seen.store_after said
  pub put : Puts seen.sink seen.sink_after said

-- neither a call of the store or of the sink failed, nor a device of the store
pub record NoDeviceFailed (seen : Seen) : Type 0 where
  pub none : NoneRose seen
  pub devices : seen.store_after.device_faults ≡ counted seen.store.device_faults 1 → ⊥

-- What `checkpoint` promises. The place and the state that the files give before it they give after it, by the same words, whatever its
-- status and wherever it stopped. Where it is done, the next era has begun with them. Where a fence failed, or a file could not be made,
-- that is said and counted. Where the files give a place and a state, and a number is left, it is done unless a call or a fence fails.
pub record CheckpointPromises (seen : Seen) (status : ℕ) : Type 0 where
  pub kept : (names : EraNames) (threads place : ℕ) (text : List ℕ) → form_of seen.words ≡ Some (Checkpoint names threads)
      → seen.store.tells ≡ true → (r : Restores seen.store names threads place text)
      → AreNamesApart names (next_area (era_in r)) threads → Restores seen.store_after names threads place text
  pub done : (names : EraNames) (threads : ℕ) → form_of seen.words ≡ Some (Checkpoint names threads) → seen.store.tells ≡ true
      → status ≡ 0 → HasCheckpoint seen names threads
  pub fence : (names : EraNames) (threads : ℕ) → form_of seen.words ≡ Some (Checkpoint names threads) → status ≡ 7
      → HasPutFence seen threads
  pub file : (names : EraNames) (threads : ℕ) → form_of seen.words ≡ Some (Checkpoint names threads) → status ≡ 6
      → SinkFailed seen ⊎ HasPutFile seen
  pub comes : (names : EraNames) (threads place : ℕ) (text : List ℕ) → form_of seen.words ≡ Some (Checkpoint names threads)
      → (r : Restores seen.store names threads place text) → (era_in r).number + 1 < 2 ^ 64 → NoDeviceFailed seen
      → SaysThis seen status Done (checkpoint_text ((era_in r).number + 1) place text)
