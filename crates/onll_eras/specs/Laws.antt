-- Laws over the files of eras, whatever code writes them.

use Rattle.std.specs.Prelude.{ℕ, ◌+◌, ◌^◌, ◌<◌, ◌≤◌, ◌≡◌, true, List}
use Rattle.onll_model.specs.Limits.{most_threads}
use Rattle.onll_outside.specs.Views.{StoreView, Rose, counted}
use Rattle.onll_task.specs.declared.ending.Ending.{Ending}
use Rattle.onll_task.specs.declared.ending.Ending.TheVariants.{Done}
use Rattle.onll_task.specs.Job.{Job, JobCut, JobEnds, Decides}
use Rattle.onll_eras.specs.Begun.{AreNamesApart, BeginsNext, LeavesEra}
use Rattle.onll_eras.specs.EraJob.{restore_work, checkpoint_work}
use Rattle.onll_eras.specs.EraReports.{restored_text, checkpoint_text}
use Rattle.onll_eras.specs.Eras.{next_area}
use Rattle.onll_eras.specs.Names.{EraNames}
use Rattle.onll_eras.specs.Restored.{Restores, era_in}

abbrev pub restore_job : EraNames → ℕ → Job
restore_job names threads = (restore_work names threads).task.job

abbrev pub checkpoint_job : EraNames → ℕ → Job
checkpoint_job names threads = (checkpoint_work names threads).task.job

-- ---- restore
-- some lines, and then this place and this state as it is printed
pub record SaysPlace (place : ℕ) (text said : List ℕ) : Type 0 where
  pub front : List (List (List ℕ))
  pub says : said ≡ restored_text front place text

-- where the files give a place and a state, their bytes decide that `restore` prints these
pub record DecidesRestore (store : StoreView) (names : EraNames) (threads place : ℕ) (text : List ℕ) : Type 0 where
  pub said : List ℕ
  pub decides : Decides store (restore_job names threads) Done said
  pub place_said : SaysPlace place text said

abbrev pub RestoreSaysLaw : Type 0
RestoreSaysLaw = (store : StoreView) (names : EraNames) (threads place : ℕ) (text : List ℕ)
    → Restores store names threads place text → DecidesRestore store names threads place text

-- what `restore` prints where it is done is what the files give
pub record PrintsWhatIs (store : StoreView) (names : EraNames) (threads : ℕ) (said : List ℕ) : Type 0 where
  pub place : ℕ
  pub text : List ℕ
  pub restores : Restores store names threads place text
  pub place_said : SaysPlace place text said

abbrev pub RestorePrintsLaw : Type 0
RestorePrintsLaw = (store after : StoreView) (names : EraNames) (threads : ℕ) (said : List ℕ) → store.tells ≡ true
    → JobEnds store after (restore_job names threads) Done said → PrintsWhatIs store names threads said

-- the files give one place and one state
abbrev pub OneStateLaw : Type 0
OneStateLaw = (store : StoreView) (names : EraNames) (threads place other : ℕ) (text more : List ℕ)
    → Restores store names threads place text → Restores store names threads other more → (place ≡ other) × (text ≡ more)

-- ---- checkpoint
-- Whatever code changes the files of the next era alone, and leaves its area as it was, or without a checkpoint, or with the next one
-- begun: the files give the same place and the same state as before.
abbrev pub SameStateLaw : Type 0
SameStateLaw = (store after : StoreView) (names : EraNames) (threads place : ℕ) (text : List ℕ) → store.tells ≡ true
    → 1 ≤ threads → threads ≤ most_threads → (r : Restores store names threads place text)
    → AreNamesApart names (next_area (era_in r)) threads
    → LeavesEra store after names.ckpt (era_in r) threads place text → Restores after names threads place text

-- the same, wherever the job of `checkpoint` stops; a job that ends stops there
abbrev pub CheckpointCutLaw : Type 0
CheckpointCutLaw = (store after : StoreView) (names : EraNames) (threads place : ℕ) (text : List ℕ) → store.tells ≡ true
    → 1 ≤ threads → threads ≤ most_threads → (r : Restores store names threads place text)
    → AreNamesApart names (next_area (era_in r)) threads
    → JobCut store after (checkpoint_job names threads) → Restores after names threads place text

-- Where `checkpoint` is done, the files gave a place and a state, which it prints; and where the names are apart, the next era has
-- begun with them, and has no entry.
pub record HasBegunNext (store after : StoreView) (names : EraNames) (threads : ℕ) (said : List ℕ) : Type 0 where
  pub place : ℕ
  pub text : List ℕ
  pub was : Restores store names threads place text
  pub says : said ≡ checkpoint_text ((era_in was).number + 1) place text
  pub begins : AreNamesApart names (next_area (era_in was)) threads → BeginsNext was after

abbrev pub NextEraLaw : Type 0
NextEraLaw = (store after : StoreView) (names : EraNames) (threads : ℕ) (said : List ℕ) → store.tells ≡ true
    → 1 ≤ threads → threads ≤ most_threads
    → JobEnds store after (checkpoint_job names threads) Done said → HasBegunNext store after names threads said

-- Where the files give a place and a state, and a number is left, `checkpoint` is done with these unless a call of the store or a fence
-- fails.
abbrev pub DoneLaw : Type 0
DoneLaw = (store after : StoreView) (names : EraNames) (threads place : ℕ) (text : List ℕ) (ending : Ending) (said : List ℕ)
    → (r : Restores store names threads place text) → (era_in r).number + 1 < 2 ^ 64
    → (Rose store.faults after.faults → ⊥) → (after.device_faults ≡ counted store.device_faults 1 → ⊥)
    → JobEnds store after (checkpoint_job names threads) ending said
    → (ending ≡ Done) × (said ≡ checkpoint_text ((era_in r).number + 1) place text)
