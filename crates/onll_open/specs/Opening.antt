-- How an object is opened over the files of its logs, and why it isn't.
use Rattle.std.specs.Prelude.{ℕ, true, false, List, [], ◌∷◌, ◌+◌, ◌*◌, ◌≤◌, ◌≡◌, ◌⊎◌, length, map, take, Result, Ok, Err, Option, Some, None}
use Rattle.std.specs.List.{AllByRecursion}
use Rattle.onll_model.specs.declared.node.Node.{Node}
use Rattle.onll_model.specs.Object.{Behaviour}
use Rattle.onll_pmem.specs.Pmem.{DeviceView}
use Rattle.onll_log.specs.declared.head.LogHead.{LogHead}
use Rattle.onll_log.specs.Log.{LogState, free_of}
use Rattle.onll_merge.specs.Merge.{merge}
use Rattle.onll_merge.specs.Recovered.{Recovered}
use Rattle.onll_outside.specs.Views.{StoreView, SameFaults, SameDevices, counted}
use Rattle.onll_outside.specs.declared.store.FaultKind.TheVariants.{Read, Device, Reopen}
use Rattle.onll_shared.specs.Found.{content_held, head_held}
use Rattle.onll_shared.specs.Passes.{OnllView, PassView}
use Rattle.onll_shared.specs.Starts.{AreLogs, HasBegun}
use Rattle.onll_log.specs.Head.{AreHeads}
use Rattle.onll_run.specs.Outcomes.{HasRoomFor}
use Rattle.onll_open.specs.declared.fault.FilesFault.{FilesFault}
use Rattle.onll_open.specs.declared.fault.FilesFault.TheVariants as files
use Rattle.onll_open.specs.declared.fault.OpenFault.{OpenFault}
use Rattle.onll_open.specs.declared.fault.OpenFault.TheVariants.{Files, NoRoom, Full, NotMade, NotReopened, HeaderFailed, NoMemory}
use Rattle.onll_open.specs.Asking.{rooms_of, room_refused}
use Rattle.onll_open.specs.Devices.{HeadIs, fronts_by}
use Rattle.onll_open.specs.Files.{FilesHold, AreRead, LeaveFronts, LogCallFailed, SameCounts, SameLogs}
use Rattle.onll_open.specs.Locking.{LockFailed}
use Rattle.onll_open.specs.Misfits.{found_in}
use Rattle.onll_open.specs.Rooms.{first_full, most_lines}

-- the pass has nodes, and lines for any window, for all the updates that it may order
abbrev pub IsRoomy : {State Device : Type 0} → (Device → DeviceView) → OnllView State → PassView State Device → Type 0
IsRoomy means onll pass = HasRoomFor means onll pass.room pass

-- each log has lines for any window, among so many threads, for as many updates as its room
abbrev pub HaveLines : {Device : Type 0} → (Device → DeviceView) → ℕ → List ℕ → List (LogState Device) → Type 0
HaveLines means threads [] [] = Unit {0}
HaveLines means threads (room ∷ rooms) (log ∷ logs) =
    ((threads + 1) * room ≤ free_of (length (means log.device).read) log.entries) × HaveLines means threads rooms logs
HaveLines means threads rooms logs = ⊥

-- the log's device has no more lines than a log can have, so whoever opens the log next reads all of them
abbrev pub IsShortLog : {Device : Type 0} → (Device → DeviceView) → LogState Device → Type 0
IsShortLog means log = length (means log.device).read ≤ most_lines

-- The logs of all threads are open, with these heads; they hold these nodes, and have lines for the updates to come, and not too many.
pub record AreOpenLogs {Device : Type 0} (means : Device → DeviceView) (heads : List LogHead) (rooms : List ℕ) (nodes : List Node)
    (logs : List (LogState Device)) : Type 0 where
  pub many : length logs ≡ length rooms
  pub are_logs : AreLogs logs
  pub heads_are : map head_held logs ≡ heads
  pub merged : merge (map head_held logs) (map content_held logs) ≡ Ok nodes
  pub lines : HaveLines means (length rooms) rooms logs
  pub short : AllByRecursion (IsShortLog means) logs

module _ {State Op Query Reply Device : Type 0} (b : Behaviour State Op Query Reply) (means : Device → DeviceView) where
  -- The object goes on from these nodes, with a pass for each log, which has room for the updates that it may order and has made no call.
  pub record GoesOn (heads : List LogHead) (state : State) (nodes : List Node) (rooms : List ℕ)
      (onll : OnllView State) (passes : List (PassView State Device)) : Type 0 where
    pub first : onll.first ≡ state
    pub base : onll.trace.plan.base ≡ nodes
    pub opened : List (LogState Device)
    pub logs_are : AreLogs opened
    pub heads_are : map head_held opened ≡ heads
    pub begun : HasBegun b means onll opened rooms passes
    pub roomy : AllByRecursion (IsRoomy means onll) passes
    pub short : AllByRecursion (IsShortLog means) opened

-- Of logs of these heads those up to which headers may have been written where an object was not opened: to the one whose fence failed;
-- and none before all devices are had.
abbrev pub written_at : List LogHead → OpenFault → List LogHead
written_at heads (Files fault) = []
written_at heads (NoRoom thread) = []
written_at heads (Full thread) = []
written_at heads (NotMade thread) = []
written_at heads (NotReopened thread) = []
written_at heads (HeaderFailed thread) = take (thread + 1) heads
written_at heads NoMemory = heads

-- the same whatever the answer
abbrev pub written_by : {T : Type 0} → List LogHead → Result T OpenFault → List LogHead
written_by heads (Ok x) = heads
written_by heads (Err fault) = written_at heads fault

module _ {State Op Query Reply : Type 0} (b : Behaviour State Op Query Reply) (store : StoreView) (logs : List ℕ)
    (heads : List LogHead) where
  -- What the files of these logs hold gives this, as the logs of one run with these heads.
  pub record FilesGive (result : Result Recovered FilesFault) : Type 0 where
    pub images : List (List (List ℕ))
    pub many : length images ≡ length heads
    pub hold : FilesHold logs 0 images store
    pub gives : found_in b heads images ≡ result

  -- why files give nothing: but for a lock, a file that could not be read and want of memory, by what they hold
  abbrev pub FilesRefuse : FilesFault → Type 0
  FilesRefuse files.InUse = Unit {0}
  FilesRefuse files.NotLocked = Unit {0}
  FilesRefuse (files.NotRead thread) = Unit {0}
  FilesRefuse files.NoMemory = Unit {0}
  FilesRefuse fault = FilesGive (Err fault)

  -- What is kept of the files of so many threads' logs gives this, as the logs of one run with these heads.
  pub record HasFound (threads : ℕ) (lines : List (List (List ℕ))) (found : Recovered) : Type 0 where
    pub heads_are : AreHeads threads 0 heads
    pub count : length heads ≡ threads
    pub read : AreRead logs lines store
    pub many : length lines ≡ threads
    pub gives : found_in b heads lines ≡ Ok found
    pub counts : length found.logs ≡ threads

  -- The same, and each thread has room for its updates.
  pub record HasRoomIn (rooms : List ℕ) (lines : List (List (List ℕ))) (found : Recovered) : Type 0 where
    pub has : HasFound (length rooms) lines found
    pub room : first_full (length rooms) found.nodes 0 found.logs rooms ≡ None

  -- the files give this, which leaves each of so many threads the room that is asked for
  abbrev pub GivesRoom : ℕ → Option (List ℕ) → Recovered → Type 0
  GivesRoom threads asked found = FilesGive (Ok found) × (room_refused threads asked found ≡ None)

  -- The object goes on from exactly what was recovered, with as much room as is asked for.
  pub record HasOpened {Device : Type 0} (means : Device → DeviceView) (state : State) (threads : ℕ) (asked : Option (List ℕ))
      (onll : OnllView State) (passes : List (PassView State Device)) : Type 0 where
    pub found : Recovered
    pub recovered : GivesRoom threads asked found
    pub on : GoesOn b means heads state found.nodes (rooms_of threads asked found) onll passes

  -- why no object was opened: the files give nothing; or they do, and a thread has no room; or each has, and a log's device is not had,
  -- or the header of a log that has none is not made durable
  abbrev pub CannotOpen : ℕ → Option (List ℕ) → OpenFault → Type 0
  CannotOpen threads asked (Files files.NoMemory) = ⊥
  CannotOpen threads asked (Files fault) = FilesRefuse fault
  CannotOpen threads asked (NoRoom thread) =
      (found : Recovered) × FilesGive (Ok found) × (room_refused threads asked found ≡ Some (NoRoom thread))
  CannotOpen threads asked (Full thread) =
      (found : Recovered) × FilesGive (Ok found) × (room_refused threads asked found ≡ Some (Full thread))
  CannotOpen threads asked (NotMade thread) =
      (found : Recovered) × GivesRoom threads asked found × HeadIs false thread found.logs
  CannotOpen threads asked (NotReopened thread) =
      (found : Recovered) × GivesRoom threads asked found × HeadIs true thread found.logs
  CannotOpen threads asked (HeaderFailed thread) =
      (found : Recovered) × GivesRoom threads asked found × HeadIs false thread found.logs
  CannotOpen threads asked NoMemory = Unit {0}

  -- Nothing that the logs hold is lost, whatever the answer: no thread's file changed; or the files give nodes, and each that holds a log
  -- with a head begins with the lines that hold it, as before, what follows being wiped in part or not. Another is as it was or zeros, or
  -- holds its own log's header, where that is one of these that may have been written.
  abbrev pub NothingLost : ℕ → Option (List ℕ) → (written : List LogHead) → StoreView → Type 0
  NothingLost threads asked written new = SameLogs logs store new
      ⊎ ((lines : List (List (List ℕ))) × (found : Recovered) × HasFound threads lines found
      × (room_refused threads asked found ≡ None) × LeaveFronts logs 0 written (fronts_by found.logs lines) store new)

-- why logs were not opened over what was found, where each thread has room
abbrev pub NotOpenedOver : Recovered → OpenFault → Type 0
NotOpenedOver found (NotMade thread) = HeadIs false thread found.logs
NotOpenedOver found (NotReopened thread) = HeadIs true thread found.logs
NotOpenedOver found (HeaderFailed thread) = HeadIs false thread found.logs
NotOpenedOver found NoMemory = Unit {0}
NotOpenedOver found fault = ⊥

-- ---- what is left of the store
-- a call for the logs, which are locked, failed exactly where that is the answer
abbrev pub ReadFaults : {T : Type 0} → List ℕ → ℕ → StoreView → StoreView → Result T FilesFault → Type 0
ReadFaults logs threads old new (Err files.InUse) = ⊥
ReadFaults logs threads old new (Err files.NotLocked) = ⊥
ReadFaults logs threads old new (Err (files.NotRead thread)) = LogCallFailed Read logs threads thread old new
ReadFaults logs threads old new result = SameFaults old new

-- the same where the call locks them first
abbrev pub RecoverFaults : {T : Type 0} → List ℕ → ℕ → StoreView → StoreView → Result T FilesFault → Type 0
RecoverFaults logs threads old new (Err files.InUse) = SameFaults old new
RecoverFaults logs threads old new (Err files.NotLocked) = LockFailed logs old new
RecoverFaults logs threads old new result = ReadFaults logs threads old new result

-- Of logs that are locked: the outside failed exactly where that is the answer, one device has a fault where a header failed, and no
-- device is out where none was opened; what files hold that is refused changes nothing.
abbrev pub HeldFaults : {T : Type 0} → List ℕ → ℕ → StoreView → StoreView → Result T OpenFault → Type 0
HeldFaults logs threads old new (Ok x) = SameCounts old new
HeldFaults logs threads old new (Err (Files files.InUse)) = ⊥
HeldFaults logs threads old new (Err (Files files.NotLocked)) = ⊥
HeldFaults logs threads old new (Err (Files (files.NotRead thread))) =
    LogCallFailed Read logs threads thread old new × SameDevices old new × SameLogs logs old new
HeldFaults logs threads old new (Err (Files fault)) = SameCounts old new × SameLogs logs old new
HeldFaults logs threads old new (Err (NoRoom thread)) = SameCounts old new × SameLogs logs old new
HeldFaults logs threads old new (Err (Full thread)) = SameCounts old new × SameLogs logs old new
HeldFaults logs threads old new (Err (NotMade thread)) = LogCallFailed Device logs threads thread old new
HeldFaults logs threads old new (Err (NotReopened thread)) = LogCallFailed Reopen logs threads thread old new
HeldFaults logs threads old new (Err (HeaderFailed thread)) =
    SameFaults old new × (new.device_faults ≡ counted old.device_faults 1)
HeldFaults logs threads old new (Err NoMemory) = SameFaults old new

-- the same where the call locks them first
abbrev pub OpenFaults : {T : Type 0} → List ℕ → ℕ → StoreView → StoreView → Result T OpenFault → Type 0
OpenFaults logs threads old new (Err (Files files.InUse)) = SameCounts old new × SameLogs logs old new
OpenFaults logs threads old new (Err (Files files.NotLocked)) =
    LockFailed logs old new × SameDevices old new × SameLogs logs old new
OpenFaults logs threads old new result = HeldFaults logs threads old new result
