-- What is so of a store is so of one before it, in which no thread's file was another.
use Rattle.std.proofs.Common.{ℕ, suc, List, [], ◌∷◌, ◌≡◌, Option, None, inl, inr, Ok, Err, sym, ◌∙◌, subst}
use Rattle.std.specs.Prelude.{Result}
use Rattle.onll_model.specs.Object.{Behaviour}
use Rattle.onll_pmem.specs.Pmem.{DeviceView}
use Rattle.onll_log.specs.declared.head.LogHead.{LogHead}
use Rattle.onll_merge.specs.Recovered.{Recovered}
use Rattle.onll_outside.specs.Views.{StoreView, SameFiles, SameFaults, SameDevices, KeptOrZeros, Rose, counted}
use Rattle.onll_outside.specs.declared.store.FaultKind.{FaultKind}
use Rattle.onll_outside.specs.declared.store.FaultKind.TheVariants.{Device, Reopen}
use Rattle.onll_shared.specs.Passes.{OnllView, PassView}
use Rattle.onll_open.specs.declared.fault.DeviceFault.{DeviceFault}
use Rattle.onll_open.specs.declared.fault.DeviceFault.TheVariants as devices
use Rattle.onll_open.specs.declared.fault.FilesFault.{FilesFault}
use Rattle.onll_open.specs.declared.fault.FilesFault.TheVariants as files
use Rattle.onll_open.specs.declared.fault.OpenFault.{OpenFault}
use Rattle.onll_open.specs.declared.fault.OpenFault.TheVariants.{Files, NoRoom, Full, NotMade, NotReopened, HeaderFailed, NoMemory}
use Rattle.onll_open.specs.Asking.{RoomRefused, room_refused}
use Rattle.onll_open.specs.Devices.{IsDeviceOf, fronts_by}
use Rattle.onll_open.specs.Faults.{of_device, of_files}
use Rattle.onll_open.specs.Names.{log_name}
use Rattle.onll_open.specs.Files.{KeepFronts, KeepsFront, HoldsHeader, LeaveFronts, LeavesFront, DeviceFaults, LogCallFailed, SameBut, SameCounts, SameLogs}
use Rattle.onll_open.specs.Opening.{NotOpenedOver, CannotOpen, FilesGive, FilesRefuse, GivesRoom, HasFound, HasOpened, HeldFaults, NothingLost, ReadFaults}
use Rattle.onll_open.proofs.Handing.{faults_more, counts_more}
use Rattle.onll_open.proofs.GivenLogs.{read_there, give_same}
use Rattle.onll_open.proofs.Locked.{logs_back, logs_more, logs_of_files}
use Rattle.onll_open.proofs.Reopening.{keep_same, keeps_since}

zeros_there : (name : List ℕ) (old mid new : StoreView) → mid.file name ≡ old.file name → KeptOrZeros name mid new → KeptOrZeros name old new
zeros_there name old mid new file (inl same) = inl (same ∙ file)
zeros_there name old mid new file (inr z) = inr z

keeps_there : (name : List ℕ) (front : List (List ℕ)) (old mid new : StoreView) → mid.tells ≡ old.tells → mid.file name ≡ old.file name → KeepsFront name front mid new → KeepsFront name front old new
keeps_there name [] old mid new tells file h = zeros_there name old mid new file h
keeps_there name (line ∷ front) old mid new tells file h = λ on.
    let w = h (tells ∙ on) in record { was = w.was; rest = w.rest; before = sym file ∙ w.before; now = w.now; wiped = w.wiped }

pub keep_there : (logs : List ℕ) (t : ℕ) (fronts : List (List (List ℕ))) (old mid new : StoreView) → SameLogs logs old mid → KeepFronts logs t fronts mid new → KeepFronts logs t fronts old new
keep_there logs t [] old mid new same h = tt
keep_there logs t (front ∷ fronts) old mid new same h =
    (keeps_there (log_name logs t) front old mid new same.tells (same.file t) h.0, keep_there logs (suc t) fronts old mid new same h.1)

-- ---- files of logs whose headers may have been written
-- those that are left as they are where none was
pub leave_kept : (logs : List ℕ) (t : ℕ) (heads : List LogHead) (fronts : List (List (List ℕ))) (old new : StoreView) → KeepFronts logs t fronts old new → LeaveFronts logs t heads fronts old new
leave_kept logs t [] fronts old new h = h
leave_kept logs t (head ∷ heads) [] old new h = tt
leave_kept logs t (head ∷ heads) (front ∷ fronts) old new h = (by front h.0, leave_kept logs (suc t) heads fronts old new h.1)
  where
    by : (front : List (List ℕ)) → KeepsFront (log_name logs t) front old new → LeavesFront (log_name logs t) head front old new
    by [] k = inl k
    by (line ∷ lines) k = k

leaves_there : (name : List ℕ) (head : LogHead) (front : List (List ℕ)) (old mid new : StoreView) → mid.tells ≡ old.tells → mid.file name ≡ old.file name → LeavesFront name head front mid new → LeavesFront name head front old new
leaves_there name head [] old mid new tells file (inl h) = inl (zeros_there name old mid new file h)
leaves_there name head [] old mid new tells file (inr h) = inr h
leaves_there name head (line ∷ front) old mid new tells file h = keeps_there name (line ∷ front) old mid new tells file h

leave_there : (logs : List ℕ) (t : ℕ) (heads : List LogHead) (fronts : List (List (List ℕ))) (old mid new : StoreView) → SameLogs logs old mid → LeaveFronts logs t heads fronts mid new → LeaveFronts logs t heads fronts old new
leave_there logs t [] fronts old mid new same h = keep_there logs t fronts old mid new same h
leave_there logs t (head ∷ heads) [] old mid new same h = tt
leave_there logs t (head ∷ heads) (front ∷ fronts) old mid new same h =
    (leaves_there (log_name logs t) head front old mid new same.tells (same.file t) h.0, leave_there logs (suc t) heads fronts old mid new same h.1)

leaves_since : (name : List ℕ) (head : LogHead) (front : List (List ℕ)) (old mid new : StoreView) → new.file name ≡ mid.file name → LeavesFront name head front old mid → LeavesFront name head front old new
leaves_since name head [] old mid new file (inl h) = inl (keeps_since name [] old mid new file h)
leaves_since name head [] old mid new file (inr h) = inr (record { more = h.more; image = h.image; file = file ∙ h.file; mixed = h.mixed })
leaves_since name head (line ∷ front) old mid new file h = keeps_since name (line ∷ front) old mid new file h

leave_same : (logs : List ℕ) (t : ℕ) (heads : List LogHead) (fronts : List (List (List ℕ))) (old mid new : StoreView) → SameFiles mid new → LeaveFronts logs t heads fronts old mid → LeaveFronts logs t heads fronts old new
leave_same logs t [] fronts old mid new same h = keep_same logs t fronts old mid new same h
leave_same logs t (head ∷ heads) [] old mid new same h = tt
leave_same logs t (head ∷ heads) (front ∷ fronts) old mid new same h =
    (leaves_since (log_name logs t) head front old mid new (same.file (log_name logs t)) h.0, leave_same logs (suc t) heads fronts old mid new same h.1)

module _ {State Op Query Reply : Type 0} (b : Behaviour State Op Query Reply) (old mid : StoreView) (logs : List ℕ) (same : SameLogs logs old mid) (heads : List LogHead) where
  give_there : (r : Result Recovered FilesFault) → FilesGive b mid logs heads r → FilesGive b old logs heads r
  give_there r h = give_same b mid old logs heads r (logs_back logs old mid same) h

  pub refuse_there : (fault : FilesFault) → FilesRefuse b mid logs heads fault → FilesRefuse b old logs heads fault
  refuse_there files.InUse h = tt
  refuse_there files.NotLocked h = tt
  refuse_there (files.NotLog log) h = give_there _ h
  refuse_there (files.OldFormat log) h = give_there _ h
  refuse_there (files.Threads were) h = give_there _ h
  refuse_there (files.Gone log) h = give_there _ h
  refuse_there (files.NotOneRun fault) h = give_there _ h
  refuse_there (files.NotOperation place) h = give_there _ h
  refuse_there (files.NotRead thread) h = tt
  refuse_there files.NoMemory h = tt

  room_back : (threads : ℕ) (asked : Option (List ℕ)) (found : Recovered) → GivesRoom b mid logs heads threads asked found → GivesRoom b old logs heads threads asked found
  room_back threads asked found h = (give_there _ h.0, h.1)

  pub cannot_there : (threads : ℕ) (asked : Option (List ℕ)) (fault : OpenFault) → CannotOpen b mid logs heads threads asked fault → CannotOpen b old logs heads threads asked fault
  cannot_there threads asked (Files files.InUse) h = h
  cannot_there threads asked (Files files.NotLocked) h = h
  cannot_there threads asked (Files (files.NotLog log)) h = refuse_there (files.NotLog log) h
  cannot_there threads asked (Files (files.OldFormat log)) h = refuse_there (files.OldFormat log) h
  cannot_there threads asked (Files (files.Threads were)) h = refuse_there (files.Threads were) h
  cannot_there threads asked (Files (files.Gone log)) h = refuse_there (files.Gone log) h
  cannot_there threads asked (Files (files.NotOneRun fault)) h = refuse_there (files.NotOneRun fault) h
  cannot_there threads asked (Files (files.NotOperation place)) h = refuse_there (files.NotOperation place) h
  cannot_there threads asked (Files (files.NotRead thread)) h = tt
  cannot_there threads asked (Files files.NoMemory) h = h
  cannot_there threads asked (NoRoom thread) h = (h.0, give_there _ h.1, h.2)
  cannot_there threads asked (Full thread) h = (h.0, give_there _ h.1, h.2)
  cannot_there threads asked (NotMade thread) h = (h.0, room_back threads asked h.0 h.1, h.2)
  cannot_there threads asked (NotReopened thread) h = (h.0, room_back threads asked h.0 h.1, h.2)
  cannot_there threads asked (HeaderFailed thread) h = (h.0, room_back threads asked h.0 h.1, h.2)
  cannot_there threads asked NoMemory h = tt

  pub opened_there : {Device : Type 0} (means : Device → DeviceView) (state : State) (threads : ℕ) (asked : Option (List ℕ)) (onll : OnllView State) (passes : List (PassView State Device))
      → HasOpened b mid logs heads means state threads asked onll passes → HasOpened b old logs heads means state threads asked onll passes
  opened_there means state threads asked onll passes h = record { found = h.found; recovered = room_back threads asked h.found h.recovered; on = h.on }

  found_there : (threads : ℕ) (lines : List (List (List ℕ))) (found : Recovered) → HasFound b mid logs heads threads lines found → HasFound b old logs heads threads lines found
  found_there threads lines found h = record {
    heads_are = h.heads_are;
    count = h.count;
    read = read_there mid old logs lines (logs_back logs old mid same) h.read;
    many = h.many;
    gives = h.gives;
    counts = h.counts;
  }

  pub found_here : (threads : ℕ) (lines : List (List (List ℕ))) (found : Recovered) → HasFound b old logs heads threads lines found → HasFound b mid logs heads threads lines found
  found_here threads lines found h = record {
    heads_are = h.heads_are;
    count = h.count;
    read = read_there old mid logs lines same h.read;
    many = h.many;
    gives = h.gives;
    counts = h.counts;
  }

  pub lost_there : (threads : ℕ) (asked : Option (List ℕ)) (written : List LogHead) (new : StoreView) → NothingLost b mid logs heads threads asked written new → NothingLost b old logs heads threads asked written new
  lost_there threads asked written new (inl h) = inl (logs_more logs old mid new same h)
  lost_there threads asked written new (inr h) = inr (h.0, h.1, found_there threads h.0 h.1 h.2, h.3, leave_there logs 0 written (fronts_by h.1.logs h.0) old mid new same h.4)

  -- and of one after it, in which no file is another
  pub lost_last : (threads : ℕ) (asked : Option (List ℕ)) (written : List LogHead) (new last : StoreView) → SameFiles new last → NothingLost b mid logs heads threads asked written new → NothingLost b mid logs heads threads asked written last
  lost_last threads asked written new last files_same (inl h) = inl (logs_more logs mid new last h (logs_of_files logs new last files_same))
  lost_last threads asked written new last files_same (inr h) = inr (h.0, h.1, h.2, h.3, leave_same logs 0 written (fronts_by h.1.logs h.0) mid new last files_same h.4)

-- ---- of logs that are locked
failed_there : (kind : FaultKind) (logs : List ℕ) (threads thread : ℕ) (old mid new : StoreView) → SameFaults old mid → LogCallFailed kind logs threads thread mid new → LogCallFailed kind logs threads thread old new
failed_there kind logs threads thread old mid new same h = record { within = h.within; rose = subst (λ n. Rose n new.faults) same.0 h.rose; last = h.last }

-- where logs could not be opened over what was found
pub held_faults : (T : Type 0) (logs : List ℕ) (threads : ℕ) (old mid new : StoreView) (r : Result T OpenFault) → SameCounts old mid → SameLogs logs old mid → HeldFaults {T = T} logs threads mid new r → HeldFaults {T = T} logs threads old new r
held_faults T logs threads old mid new (Ok x) counts same h = counts_more old mid new counts h
held_faults T logs threads old mid new (Err (Files files.InUse)) counts same h = h
held_faults T logs threads old mid new (Err (Files files.NotLocked)) counts same h = h
held_faults T logs threads old mid new (Err (Files (files.NotRead thread))) counts same h = (
  failed_there _ logs threads thread old mid new counts.0 h.0,
  (h.1.0 ∙ counts.1.0, h.1.1 ∙ counts.1.1),
  logs_more logs old mid new same h.2,
)
held_faults T logs threads old mid new (Err (Files (files.NotLog log))) counts same h = (counts_more old mid new counts h.0, logs_more logs old mid new same h.1)
held_faults T logs threads old mid new (Err (Files (files.OldFormat log))) counts same h = (counts_more old mid new counts h.0, logs_more logs old mid new same h.1)
held_faults T logs threads old mid new (Err (Files (files.Threads were))) counts same h = (counts_more old mid new counts h.0, logs_more logs old mid new same h.1)
held_faults T logs threads old mid new (Err (Files (files.Gone log))) counts same h = (counts_more old mid new counts h.0, logs_more logs old mid new same h.1)
held_faults T logs threads old mid new (Err (Files (files.NotOneRun fault))) counts same h = (counts_more old mid new counts h.0, logs_more logs old mid new same h.1)
held_faults T logs threads old mid new (Err (Files (files.NotOperation place))) counts same h = (counts_more old mid new counts h.0, logs_more logs old mid new same h.1)
held_faults T logs threads old mid new (Err (Files files.NoMemory)) counts same h = (counts_more old mid new counts h.0, logs_more logs old mid new same h.1)
held_faults T logs threads old mid new (Err (NoRoom thread)) counts same h = (counts_more old mid new counts h.0, logs_more logs old mid new same h.1)
held_faults T logs threads old mid new (Err (Full thread)) counts same h = (counts_more old mid new counts h.0, logs_more logs old mid new same h.1)
held_faults T logs threads old mid new (Err (NotMade thread)) counts same h = failed_there _ logs threads thread old mid new counts.0 h
held_faults T logs threads old mid new (Err (NotReopened thread)) counts same h = failed_there _ logs threads thread old mid new counts.0 h
held_faults T logs threads old mid new (Err (HeaderFailed thread)) counts same h = (faults_more old mid new counts.0 h.0, h.1 ∙ (λ i. counted (counts.1.0 i) 1))
held_faults T logs threads old mid new (Err NoMemory) counts same h = faults_more old mid new counts.0 h

-- what files refuse, as the refusal of an object's opening
pub cannot_of : {State Op Query Reply : Type 0} (b : Behaviour State Op Query Reply) (old : StoreView) (logs : List ℕ) (heads : List LogHead) (threads : ℕ) (asked : Option (List ℕ)) (fault : FilesFault) → FilesRefuse b old logs heads fault
    → CannotOpen b old logs heads threads asked (of_files fault)
cannot_of b old logs heads threads asked files.InUse h = h
cannot_of b old logs heads threads asked files.NotLocked h = h
cannot_of b old logs heads threads asked (files.NotLog log) h = h
cannot_of b old logs heads threads asked (files.OldFormat log) h = h
cannot_of b old logs heads threads asked (files.Threads were) h = h
cannot_of b old logs heads threads asked (files.Gone log) h = h
cannot_of b old logs heads threads asked (files.NotOneRun fault) h = h
cannot_of b old logs heads threads asked (files.NotOperation place) h = h
cannot_of b old logs heads threads asked (files.NotRead thread) h = h
cannot_of b old logs heads threads asked files.NoMemory h = tt

pub faults_of : (T U : Type 0) (logs : List ℕ) (threads : ℕ) (old new : StoreView) (fault : FilesFault) → SameLogs logs old new → SameDevices old new → ReadFaults {T = T} logs threads old new (Err fault)
    → HeldFaults {T = U} logs threads old new (Err (of_files fault))
faults_of T U logs threads old new files.InUse same devices h = h
faults_of T U logs threads old new files.NotLocked same devices h = h
faults_of T U logs threads old new (files.NotLog log) same devices h = ((h, devices), same)
faults_of T U logs threads old new (files.OldFormat log) same devices h = ((h, devices), same)
faults_of T U logs threads old new (files.Threads were) same devices h = ((h, devices), same)
faults_of T U logs threads old new (files.Gone log) same devices h = ((h, devices), same)
faults_of T U logs threads old new (files.NotOneRun fault) same devices h = ((h, devices), same)
faults_of T U logs threads old new (files.NotOperation place) same devices h = ((h, devices), same)
faults_of T U logs threads old new (files.NotRead thread) same devices h = (h, devices, same)
faults_of T U logs threads old new files.NoMemory same devices h = h

-- a device that was not had
pub device_cannot : (found : Recovered) (fault : DeviceFault) → IsDeviceOf found.logs fault → NotOpenedOver found (of_device fault)
device_cannot found (devices.NotMade thread) h = h
device_cannot found (devices.NotReopened thread) h = h
device_cannot found devices.NoMemory h = tt

pub device_faults : (T U : Type 0) (logs : List ℕ) (threads many : ℕ) (old new : StoreView) (fault : DeviceFault) → many ≡ threads → DeviceFaults {T = T} logs many old new (Err fault) → HeldFaults {T = U} logs threads old new (Err (of_device fault))
device_faults T U logs threads many old new (devices.NotMade thread) e h = subst (λ n. LogCallFailed Device logs n thread old new) e h
device_faults T U logs threads many old new (devices.NotReopened thread) e h = subst (λ n. LogCallFailed Reopen logs n thread old new) e h
device_faults T U logs threads many old new devices.NoMemory e h = h

-- ---- rooms that are refused
module _ {State Op Query Reply : Type 0} (b : Behaviour State Op Query Reply) (store : StoreView) (logs : List ℕ) (heads : List LogHead) (threads : ℕ) (asked : Option (List ℕ)) (found : Recovered) (gives : FilesGive b store logs heads (Ok found)) where
  pub room_cannot : (fault : OpenFault) → RoomRefused threads asked found fault → CannotOpen b store logs heads threads asked fault
  room_cannot (Files fault) h = absurd h
  room_cannot (NoRoom thread) h = (found, gives, h)
  room_cannot (Full thread) h = (found, gives, h)
  room_cannot (NotMade thread) h = absurd h
  room_cannot (NotReopened thread) h = absurd h
  room_cannot (HeaderFailed thread) h = absurd h
  room_cannot NoMemory h = tt

  -- where each has room, and the logs could not be opened
  pub go_on_cannot : room_refused threads asked found ≡ None → (fault : OpenFault) → NotOpenedOver found fault → CannotOpen b store logs heads threads asked fault
  go_on_cannot room (Files fault) h = absurd h
  go_on_cannot room (NoRoom thread) h = absurd h
  go_on_cannot room (Full thread) h = absurd h
  go_on_cannot room (NotMade thread) h = (found, (gives, room), h)
  go_on_cannot room (NotReopened thread) h = (found, (gives, room), h)
  go_on_cannot room (HeaderFailed thread) h = (found, (gives, room), h)
  go_on_cannot room NoMemory h = tt

pub room_faults : (T : Type 0) (logs : List ℕ) (threads : ℕ) (asked : Option (List ℕ)) (found : Recovered) (old new : StoreView) (fault : OpenFault) → SameCounts old new → SameLogs logs old new → RoomRefused threads asked found fault
    → HeldFaults {T = T} logs threads old new (Err fault)
room_faults T logs threads asked found old new (Files fault) counts same h = absurd h
room_faults T logs threads asked found old new (NoRoom thread) counts same h = (counts, same)
room_faults T logs threads asked found old new (Full thread) counts same h = (counts, same)
room_faults T logs threads asked found old new (NotMade thread) counts same h = absurd h
room_faults T logs threads asked found old new (NotReopened thread) counts same h = absurd h
room_faults T logs threads asked found old new (HeaderFailed thread) counts same h = absurd h
room_faults T logs threads asked found old new NoMemory counts same h = counts.0

pub others_there : (names : List (List ℕ)) (old mid new : StoreView) → SameFiles old mid → SameBut names mid new → SameBut names old new
others_there names old mid new same h = record { tells = h.tells ∙ same.tells; file = λ other differs. h.file other differs ∙ same.file other }
