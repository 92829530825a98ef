-- Why the next era of an object wasn't begun, which call of the outside failed, and what a refusal leaves of counts, locks and files.
use Rattle.std.specs.Prelude.{ℕ, List, [], ◌∷◌, ◌≡◌, ◌+◌, ◌%◌, ◌<◌, ◌≤◌, ◌^◌, ◌⊎◌, length, Result, Ok, Err}
use Rattle.onll_model.specs.Limits.{most_threads}
use Rattle.onll_model.specs.Object.{Behaviour}
use Rattle.onll_merge.specs.Recovered.{Recovered}
use Rattle.onll_outside.specs.Views.{StoreView, SameFaults, counted}
use Rattle.onll_open.specs.declared.fault.FilesFault.TheVariants as files
use Rattle.onll_open.specs.Locking.{AreFree, GivesBack}
use Rattle.onll_open.specs.Names.{log_lock_name, log_names}
use Rattle.onll_open.specs.Opening.{FilesGive, FilesRefuse, RecoverFaults}
use Rattle.onll_live.specs.declared.era.Era.{Era}
use Rattle.onll_live.specs.declared.fault.NextFault.{NextFault}
use Rattle.onll_live.specs.declared.fault.NextFault.TheVariants as faults
use Rattle.onll_live.specs.Beginning.{AreaNotKept, LogNotCleared}
use Rattle.onll_live.specs.Eras.{era_heads, era_logs}

-- ---- files
-- the files that the beginning of an era of this number may change: that of its area, and those of its logs
abbrev pub files_of_era : List ℕ → ℕ → List (List ℕ)
files_of_era name number = era_logs name number ∷ log_names (era_logs name number) 0 most_threads

-- those that the beginning of the next era may change: the lock of the logs of this one, and the files of that one
abbrev pub next_files : List ℕ → ℕ → List (List ℕ)
next_files name number = log_lock_name (era_logs name number) ∷ files_of_era name (number + 1)

-- Those that it may have changed, by its answer: where the era's own logs refuse it, or none is left to begin, the lock alone.
abbrev pub changed_files : {T : Type 0} → List ℕ → ℕ → Result T NextFault → List (List ℕ)
changed_files name number (Err faults.AtItsEnd) = log_lock_name (era_logs name number) ∷ []
changed_files name number (Err (faults.Files fault)) = log_lock_name (era_logs name number) ∷ []
changed_files name number result = next_files name number

-- ---- why
module _ {State Op Query Reply : Type 0} (b : Behaviour State Op Query Reply) (code : ℕ) (description : State → List ℕ) (name : List ℕ)
    (threads : ℕ) where
  -- The files of an era's logs give these nodes, and the number and the place of the next era are of 64 bits.
  pub record HasNext (store : StoreView) (era : Era State) : Type 0 where
    pub found : Recovered
    pub given : FilesGive b store (era_logs name era.number) (era_heads code description threads era.state) (Ok found)
    pub number_fits : era.number + 1 < 2 ^ 64
    pub place_fits : era.place + length found.nodes < 2 ^ 64

  -- They give these nodes, and one of the two isn't.
  pub record HasNoNext (store : StoreView) (era : Era State) : Type 0 where
    pub found : Recovered
    pub given : FilesGive b store (era_logs name era.number) (era_heads code description threads era.state) (Ok found)
    pub at_end : (2 ^ 64 ≤ era.number + 1) ⊎ (2 ^ 64 ≤ era.place + length found.nodes)

  -- The next era was begun, or why it wasn't: the files of this one give nothing; or they do, and its number or its place can't be told; or
  -- both can, and its files could not be written. Want of memory may come at any time.
  abbrev pub NextCause : {T : Type 0} → StoreView → Era State → Result T NextFault → Type 0
  NextCause store era (Ok next) = HasNext store era
  NextCause store era (Err (faults.Files files.NoMemory)) = ⊥
  NextCause store era (Err (faults.Files fault)) =
      FilesRefuse b store (era_logs name era.number) (era_heads code description threads era.state) fault
  NextCause store era (Err faults.AtItsEnd) = HasNoNext store era
  NextCause store era (Err (faults.NotCleared thread)) = HasNext store era
  NextCause store era (Err (faults.NotKept area)) = HasNext store era
  NextCause store era (Err (faults.FenceFailed area)) = HasNext store era
  NextCause store era (Err faults.NoMemory) = Unit {0}

-- ---- which call failed
-- The outside failed exactly where that is the answer: when the logs of the era of this number were locked or read, or a log or the area
-- of the next one was written. Where a fence failed, it was of that area.
abbrev pub NextFaults : {T : Type 0} → List ℕ → ℕ → ℕ → StoreView → StoreView → Result T NextFault → Type 0
NextFaults name number threads old new (Ok next) = SameFaults old new
NextFaults name number threads old new (Err (faults.Files fault)) =
    RecoverFaults {T = Unit {0}} (era_logs name number) threads old new (Err fault)
NextFaults name number threads old new (Err faults.AtItsEnd) = SameFaults old new
NextFaults name number threads old new (Err (faults.NotCleared thread)) =
    LogNotCleared (era_logs name (number + 1)) thread old new
NextFaults name number threads old new (Err (faults.NotKept area)) = (area ≡ (number + 1) % 2) × AreaNotKept name area old new
NextFaults name number threads old new (Err (faults.FenceFailed area)) = (area ≡ (number + 1) % 2) × SameFaults old new
NextFaults name number threads old new (Err faults.NoMemory) = SameFaults old new

-- The count of devices that were handed back with a fence that failed rose by one exactly where that is the answer.
abbrev pub NextFences : {T : Type 0} → (old new : ℕ) → Result T NextFault → Type 0
NextFences old new (Err (faults.FenceFailed area)) = new ≡ counted old 1
NextFences old new result = (new ≡ old) ⊎ (new ≡ counted old 0)

-- ---- locks
-- Who has the logs of an era before and after the next one was to begin. Where these logs were in use, or could not be locked, none was
-- locked or unlocked. Where the next era's files were to be written nothing is said of after, since a write may put one file in another's
-- place.
abbrev pub NextLocks : {T : Type 0} → StoreView → List ℕ → List (List ℕ) → List (List ℕ) → Result T NextFault → Type 0
NextLocks store logs old new (Err (faults.Files fault)) = GivesBack {T = Unit {0}} store logs old new (Err fault)
NextLocks store logs old new (Err faults.AtItsEnd) = AreFree store logs old × AreFree store logs new
NextLocks store logs old new (Err faults.NoMemory) = Unit {0}
NextLocks store logs old new result = AreFree store logs old
