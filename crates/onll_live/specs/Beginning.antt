-- How the next era of an object begins, and what is left where it doesn't.
use Rattle.std.specs.Prelude.{ℕ, List, ◌≡◌, ◌+◌, ◌%◌, ◌<◌, ◌≤◌, ◌⊎◌, if◌then◌else◌, nat_lt, true, false, length, Option, Some, None, Result, Ok, Err}
use Rattle.std.specs.List.{AllByRecursion}
use Rattle.onll_model.specs.declared.node.Node.{Node}
use Rattle.onll_model.specs.Limits.{most_threads}
use Rattle.onll_model.specs.Object.{Behaviour}
use Rattle.onll_model.specs.Trace.{state_after}
use Rattle.onll_merge.specs.Recovered.{Recovered}
use Rattle.onll_outside.specs.Views.{StoreView, Rose, SameFaults, SameFiles}
use Rattle.onll_outside.specs.declared.OutsideFault.{OutsideFault}
use Rattle.onll_outside.specs.declared.OutsideFault.TheVariants.{Failed, NoMemory}
use Rattle.onll_outside.specs.declared.store.FaultKind.TheVariants as kinds
use Rattle.onll_areas.specs.Newest.{AreaHolds}
use Rattle.onll_open.specs.declared.fault.FilesFault.{FilesFault}
use Rattle.onll_open.specs.declared.fault.FilesFault.TheVariants as files
use Rattle.onll_open.specs.declared.fault.OpenFault.TheVariants.{Full}
use Rattle.onll_open.specs.Asking.{room_refused}
use Rattle.onll_open.specs.Files.{FileIsMade, LogCallFailed, SameCounts}
use Rattle.onll_open.specs.Names.{log_name, log_names}
use Rattle.onll_open.specs.Opening.{FilesGive, FilesRefuse}
use Rattle.onll_live.specs.declared.era.Era.{Era}
use Rattle.onll_live.specs.declared.fault.NextFault.{NextFault}
use Rattle.onll_live.specs.declared.fault.NextFault.TheVariants as faults
use Rattle.onll_live.specs.Eras.{IsInEra, area_name, era_heads, era_logs}

-- where the store tells its files, those of the logs of so many threads are empty, or not there
abbrev pub LogsAreEmpty : StoreView → List ℕ → ℕ → Type 0
LogsAreEmpty store logs threads = (thread : ℕ) → thread < threads → FileIsMade store (log_name logs thread) false

-- so are those of as many logs as an object may have, of however many threads they were
abbrev pub AreCleared : StoreView → List ℕ → Type 0
AreCleared store logs = LogsAreEmpty store logs most_threads

-- where the store tells its files, no file of a log changed
abbrev pub LogsStay : List ℕ → StoreView → StoreView → Type 0
LogsStay logs old new = (new.tells ≡ old.tells)
    × (old.tells ≡ true → (thread : ℕ) → new.file (log_name logs thread) ≡ old.file (log_name logs thread))

-- where the store tells its files, none changed but perhaps those of an era's logs, and that of its area, which has the name of its logs
pub record OthersOfEra (logs : List ℕ) (old new : StoreView) : Type 0 where
  pub tells : new.tells ≡ old.tells
  pub file : old.tells ≡ true → (other : List ℕ) → (other ≡ logs → ⊥)
      → AllByRecursion (λ name. other ≡ name → ⊥) (log_names logs 0 most_threads) → new.file other ≡ old.file other

-- the object is in its era still, with the same logs
abbrev pub StaysInEra : {State : Type 0} → (List ℕ → Option State) → State → List ℕ → StoreView → StoreView → Era State → Type 0
StaysInEra read_of first name old new era = IsInEra read_of first new name era × LogsStay (era_logs name era.number) old new

module _ {State Op Query Reply : Type 0} (b : Behaviour State Op Query Reply) where
  -- the era after this one, where these nodes were made in it
  abbrev pub next_of : Era State → List Node → Era State
  next_of era nodes = record { number = era.number + 1; place = era.place + length nodes; state = state_after b era.state nodes }

module _ {State Op Query Reply : Type 0} (b : Behaviour State Op Query Reply) (code : ℕ) (description : State → List ℕ)
    (read_of : List ℕ → Option State) (first : State) (name : List ℕ) (threads : ℕ) where
  -- The next era has begun: it goes on from what the logs of the one before gave, which were of so many threads, and its own logs are
  -- empty, so that they may be of any number.
  pub record IsNextEra (old new : StoreView) (era next : Era State) : Type 0 where
    pub found : Recovered
    pub given : FilesGive b old (era_logs name era.number) (era_heads code description threads era.state) (Ok found)
    pub next_is : next ≡ next_of b era found.nodes
    pub in_next : IsInEra read_of first new name next
    pub empty : AreCleared new (era_logs name next.number)
    pub few : threads ≤ most_threads
    pub tells : new.tells ≡ old.tells

  -- The next era was to begin, and that was refused: the object is still in its era, with the same logs; or, where the area could not be
  -- kept and holds the checkpoint all the same, in the next.
  abbrev pub StaysOrBegins : StoreView → StoreView → Era State → Type 0
  StaysOrBegins old new era = StaysInEra read_of first name old new era
      ⊎ ((next : Era State) × IsNextEra old new era next)

-- this number of threads, which logs are of, is one that an object may have
abbrev pub threads_told : ℕ → Option ℕ
threads_told were = if nat_lt most_threads were then None else Some were

-- the number of threads that logs are of, where they are refused for it, and not for want of memory
abbrev pub ToldBy : FilesFault → Option ℕ → Type 0
ToldBy (files.Threads were) told = told ≡ threads_told were
ToldBy files.NoMemory told = ⊥
ToldBy fault told = told ≡ None

-- logs are refused for what their files hold, and not for a number of threads that an object may have
abbrev pub IsOtherFault : FilesFault → Type 0
IsOtherFault (files.Threads were) = most_threads < were
IsOtherFault files.InUse = ⊥
IsOtherFault files.NotLocked = ⊥
IsOtherFault (files.NotRead thread) = ⊥
IsOtherFault files.NoMemory = ⊥
IsOtherFault fault = Unit {0}

module _ {State Op Query Reply : Type 0} (b : Behaviour State Op Query Reply) (code : ℕ) (description : State → List ℕ) (name : List ℕ)
    (threads : ℕ) where
  -- The logs of an era give these nodes, and this thread's is the first that has no room for an update.
  pub record HasFullLog (store : StoreView) (era : Era State) : Type 0 where
    pub found : Recovered
    pub given : FilesGive b store (era_logs name era.number) (era_heads code description threads era.state) (Ok found)
    pub thread : ℕ
    pub full : room_refused threads None found ≡ Some (Full thread)

  -- The logs of an era give these nodes, and each thread has room for an update.
  pub record HasRoomLeft (store : StoreView) (era : Era State) : Type 0 where
    pub found : Recovered
    pub given : FilesGive b store (era_logs name era.number) (era_heads code description threads era.state) (Ok found)
    pub room : room_refused threads None found ≡ None

  -- why the next era is to begin before so many threads work in this one, with the number of threads that its logs are of: one of them is
  -- full; or they are of another number
  abbrev pub IsToEnd : StoreView → Era State → ℕ → Type 0
  IsToEnd store era were = ((were ≡ threads) × HasFullLog store era)
      ⊎ FilesRefuse b store (era_logs name era.number) (era_heads code description threads era.state) (files.Threads were)

  -- it isn't: each log has room; or what they hold is refused, and not for their number; or one could not be read; or there are more
  -- threads than an object may have
  abbrev pub IsToGoOn : StoreView → StoreView → Era State → Type 0
  IsToGoOn old new era = HasRoomLeft old era
      ⊎ ((fault : FilesFault) × IsOtherFault fault
      × FilesRefuse b old (era_logs name era.number) (era_heads code description threads era.state) fault)
      ⊎ ((thread : ℕ) × LogCallFailed kinds.Read (era_logs name era.number) threads thread old new) ⊎ (most_threads < threads)

  -- whether it is, by the number of threads that its logs are of
  abbrev pub EndsBy : StoreView → StoreView → Era State → Option ℕ → Type 0
  EndsBy old new era None = IsToGoOn old new era
  EndsBy old new era (Some were) = IsToEnd old era were × (were ≤ most_threads) × SameCounts old new

module _ {State Op Query Reply : Type 0} (b : Behaviour State Op Query Reply) (code : ℕ) (description : State → List ℕ)
    (read_of : List ℕ → Option State) (first : State) (name : List ℕ) (threads : ℕ) where
  -- an era is entered: it is the one that was found; or that one was to end, and the next one has begun
  abbrev pub EntersEra : StoreView → StoreView → Era State → Era State → Type 0
  EntersEra old new era next = (mid : StoreView) × SameFiles old mid
      × (((new ≡ mid) × (next ≡ era) × IsToGoOn b code description name threads old mid era)
      ⊎ ((were : ℕ) × IsToEnd b code description name threads old era were
      × IsNextEra b code description read_of first name were mid new era next))

  -- none was entered
  abbrev pub MissesEra : StoreView → StoreView → Era State → Type 0
  MissesEra old new era =
      (mid : StoreView) × SameFiles old mid × ((were : ℕ) × StaysOrBegins b code description read_of first name were mid new era)

-- after this refusal the object is still in its era
abbrev pub EraStands : NextFault → Type 0
EraStands (faults.NotKept area) = ⊥
EraStands faults.NoMemory = ⊥
EraStands fault = Unit {0}

-- it could not be told whether a file is there, or it could not be emptied, exactly where that is the answer
abbrev pub ClearFileFaults : List ℕ → StoreView → StoreView → Result (Unit {0}) OutsideFault → Type 0
ClearFileFaults file old new (Ok x) = SameFaults old new
ClearFileFaults file old new (Err Failed) = Rose old.faults new.faults
    × ((new.last ≡ Some (record { kind = kinds.Read; name = file })) ⊎ (new.last ≡ Some (record { kind = kinds.Write; name = file })))
ClearFileFaults file old new (Err NoMemory) = SameFaults old new

-- it could not be told whether the file of a log is there, or it could not be emptied, and that call is the last that failed
abbrev pub LogNotCleared : List ℕ → ℕ → StoreView → StoreView → Type 0
LogNotCleared logs thread old new =
    LogCallFailed kinds.Read logs most_threads thread old new ⊎ LogCallFailed kinds.Write logs most_threads thread old new

-- that is so exactly where it is the answer
abbrev pub ClearFaults : List ℕ → StoreView → StoreView → Result (Unit {0}) NextFault → Type 0
ClearFaults logs old new (Ok x) = SameFaults old new
ClearFaults logs old new (Err (faults.NotCleared thread)) = LogNotCleared logs thread old new
ClearFaults logs old new (Err faults.NoMemory) = SameFaults old new
ClearFaults logs old new (Err fault) = ⊥

-- the file of this name is as it was, where the store tells it
abbrev pub SameAreaFile : StoreView → StoreView → List ℕ → Type 0
SameAreaFile old new file = (new.tells ≡ old.tells) × (old.tells ≡ true → new.file file ≡ old.file file)

-- the device of this area could not be made or kept, and that call is the last that failed
pub record AreaNotKept (name : List ℕ) (area : ℕ) (old new : StoreView) : Type 0 where
  pub rose : Rose old.faults new.faults
  pub last : (new.last ≡ Some (record { kind = kinds.Device; name = area_name name area }))
      ⊎ (new.last ≡ Some (record { kind = kinds.Keep; name = area_name name area }))

module _ {State : Type 0} (read_of : List ℕ → Option State) where
  -- the file of an area holds the checkpoint of an era
  pub record AreaSaves (store : StoreView) (name : List ℕ) (era : Era State) : Type 0 where
    pub text : List ℕ
    pub reads : read_of text ≡ Some era.state
    pub held : AreaHolds store (era_logs name era.number) (Some (record { number = era.number; place = era.place; text = text }))

  -- What is left of the area in which an era was to be saved: where that is the answer it holds its checkpoint; else it is as it was, or
  -- holds no checkpoint, or holds that one all the same.
  abbrev pub SavesEra : StoreView → StoreView → List ℕ → Era State → Result (Unit {0}) NextFault → Type 0
  SavesEra old new name era (Ok x) = AreaSaves new name era
  SavesEra old new name era (Err fault) = SameAreaFile old new (era_logs name era.number)
      ⊎ AreaHolds new (era_logs name era.number) None ⊎ AreaSaves new name era

-- the file of an area is as it was, where the store tells it, or holds no checkpoint
abbrev pub NoneSaved : StoreView → StoreView → List ℕ → Type 0
NoneSaved old new file = SameAreaFile old new file ⊎ AreaHolds new file None

-- the outside failed, or a fence, exactly where that is the answer
abbrev pub SaveFaults : List ℕ → ℕ → StoreView → StoreView → Result (Unit {0}) NextFault → Type 0
SaveFaults name area old new (Ok x) = SameFaults old new
SaveFaults name area old new (Err (faults.NotKept at)) = (at ≡ area) × AreaNotKept name area old new
SaveFaults name area old new (Err (faults.FenceFailed at)) = (at ≡ area) × SameFaults old new
SaveFaults name area old new (Err faults.NoMemory) = SameFaults old new
SaveFaults name area old new (Err fault) = ⊥

module _ {State : Type 0} (read_of : List ℕ → Option State) where
  -- the era has begun: its area holds its checkpoint, and its logs are empty
  abbrev pub EraHasBegun : StoreView → List ℕ → Era State → Type 0
  EraHasBegun store name era = AreaSaves read_of store name era × AreCleared store (era_logs name era.number)

  -- What is left where an era was to begin: where that is the answer it has begun; else its area is as it was, or holds no checkpoint, or
  -- it has begun all the same.
  abbrev pub BeginsEra : StoreView → StoreView → List ℕ → Era State → Result (Unit {0}) NextFault → Type 0
  BeginsEra old new name era (Ok x) = EraHasBegun new name era
  BeginsEra old new name era (Err fault) = SameAreaFile old new (era_logs name era.number)
      ⊎ AreaHolds new (era_logs name era.number) None ⊎ EraHasBegun new name era

-- the outside failed, or a fence, exactly where that is the answer
abbrev pub BeginFaults : List ℕ → ℕ → StoreView → StoreView → Result (Unit {0}) NextFault → Type 0
BeginFaults name number old new (Err (faults.NotCleared thread)) = LogNotCleared (era_logs name number) thread old new
BeginFaults name number old new result = SaveFaults name (number % 2) old new result
