-- Scripts run on threads over devices of a store: what is run, what the store keeps of it, and how that may end a call.

use Rattle.std.specs.Prelude.{ℕ, zero, suc, max, ◌+◌, ◌*◌, ◌<◌, ◌≤◌, ◌≡◌, ◌⊎◌, Bool, true, false, List, [], ◌∷◌, length, take, sum_by, Option, Some, None}
use Rattle.std.specs.List.{AllByRecursion}
use Rattle.onll_words.specs.Texts.{line_text}
use Rattle.onll_model.specs.declared.call.Call.{Call}
use Rattle.onll_model.specs.declared.call.CallEnd.{CallEnd}
use Rattle.onll_model.specs.Calls.{updates_in}
use Rattle.onll_pmem.specs.Device.{Mixed}
use Rattle.onll_log.specs.declared.head.LogHead.{LogHead}
use Rattle.onll_log.specs.Grammar.{Content, content_of, used_by}
use Rattle.onll_log.specs.ImageFile.{image_lines}
use Rattle.onll_outside.specs.Views.{StoreView, SameFaults, Rose, MayWipe, counted, image_bytes}
use Rattle.onll_outside.specs.declared.store.FaultKind.{FaultKind}
use Rattle.onll_outside.specs.declared.store.FaultKind.TheVariants as kinds
use Rattle.onll_areas.specs.Keeping.{StaysOrZeros}
use Rattle.onll_run.specs.Outcomes.{failed_in, fault_in}
use Rattle.onll_run.specs.Left.{ScriptPlan, AfterRun, LogLeft, begun_logs, fenced_in, HasRun}
use Rattle.onll_text.specs.Kinds.{ObjectKind}
use Rattle.onll_task.specs.declared.ending.Ending.{Ending}
use Rattle.onll_task.specs.declared.ending.Ending.TheVariants.{WriteFault, Faulty}
use Rattle.onll_open.specs.Devices.{NoneCounted}
use Rattle.onll_task.specs.FileLines.{FitFile}
use Rattle.onll_open.specs.Files.{HoldsHeader}
use Rattle.onll_open.specs.Names.{log_name, log_names}
use Rattle.onll_text.specs.Lines.{fence_line}
use Rattle.onll_task.specs.Printed.{write_fault_text}
use Rattle.onll_task.specs.RunSaid.{RunData, RunReads, run_data, resumed_by}
use Rattle.onll_task.specs.Writing.{FilesStay, AllButStay}

-- ---- what is run
-- scripts on an object, over logs whose files have this name and their threads' numbers; their devices are reopened from the files of
-- an earlier generation, or made anew
pub record RunPlan (k : ObjectKind) : Type 0 where
  pub logs : List ℕ
  pub reopens : Bool
  pub run : ScriptPlan k.State k.Op k.Query k.Reply

-- what a run of it leaves
abbrev pub RunLeft : ObjectKind → Type 0
RunLeft k = AfterRun k.State k.Op k.Query k.Reply

-- the files of its logs
abbrev pub log_files : {k : ObjectKind} → RunPlan k → List (List ℕ)
log_files plan = log_names plan.logs 0 (length plan.run.scripts)

-- ---- what is said of it
module _ {k : ObjectKind} (plan : RunPlan k) where
  -- how many nodes are said to be gone on from
  abbrev pub plan_resumed : Option ℕ
  plan_resumed = resumed_by plan.reopens (length plan.run.base.nodes)

  -- what is said of a run that left this
  abbrev pub plan_data : RunLeft k → RunData k.State k.Op k.Query k.Reply
  plan_data left = run_data k.means plan_resumed plan.run.state left

  -- all of it reads back
  abbrev pub PlanReads : RunLeft k → Type 0
  PlanReads left = RunReads k.means k.wording plan.run.scripts (plan_data left)

-- ---- what the store keeps
-- so many threads have an update whose fence failed
abbrev pub broken_threads : {State Op Query Reply : Type 0} → List (List (CallEnd State Op Query Reply)) → ℕ
broken_threads {State} {Op} {Query} {Reply} ends = sum_by (λ (e : List (CallEnd State Op Query Reply)). fault_in (failed_in e)) ends

-- so many fences were made since the logs were opened or begun
abbrev pub fences_of : List LogLeft → ℕ
fences_of logs = sum_by (λ (log : LogLeft). log.fences) logs

-- where the store tells its files, a thread's holds the lines of its device as read; where its fence failed, an image of it
abbrev pub FileHoldsLog : StoreView → List ℕ → LogLeft → Option ℕ → Type 0
FileHoldsLog store name log None = store.tells ≡ true → store.file name ≡ Some (image_bytes log.read)
FileHoldsLog store name log (Some place) = store.tells ≡ true
    → (image : List (List ℕ)) × Mixed (fenced_in log (Some place)) log.read image × (store.file name ≡ Some (image_bytes image))

-- so does the file of each thread, from thread t on
abbrev pub HoldsLogs : {State Op Query Reply : Type 0} → StoreView → List ℕ → ℕ → List LogLeft
    → List (List (CallEnd State Op Query Reply)) → Type 0
HoldsLogs store logs t [] [] = Unit {0}
HoldsLogs store logs t (log ∷ rest) (ends ∷ more) =
    FileHoldsLog store (log_name logs t) log (failed_in ends) × HoldsLogs store logs (suc t) rest more
HoldsLogs store logs t rest ends = ⊥

-- where the store tells its files, the image that is read of the named one has no more lines than these
abbrev pub IsNoLonger : StoreView → List ℕ → List (List ℕ) → Type 0
IsNoLonger store name read = store.tells ≡ true → (bytes : List ℕ) → store.file name ≡ Some bytes
    → length (image_lines bytes) ≤ length read

-- The lines of a log, among so many threads, by the updates of its script. One that is begun on a device made anew has the header's
-- and those of the longest entry for each update. One whose device was reopened has room for as many entries after all that it used,
-- and is no shorter than the image that was read.
abbrev pub HasSize : Bool → (threads : ℕ) → StoreView → List ℕ → Content → (updates : ℕ) → LogLeft → Type 0
HasSize false threads store name before updates log = length log.read ≡ 1 + (threads + 1) * updates
HasSize true threads store name before updates log =
    (max 1 (used_by before) + (threads + 1) * updates ≤ length log.read) × IsNoLonger store name log.read

-- so has the log of each script
abbrev pub HaveSizes : {State Op Query Reply : Type 0} → Bool → ℕ → StoreView → List (List ℕ) → List Content
    → List (List (Call State Op Query Reply)) → List LogLeft → Type 0
HaveSizes reopens threads store [] [] [] [] = Unit {0}
HaveSizes reopens threads store (name ∷ names) (before ∷ befores) (script ∷ scripts) (log ∷ logs) =
    HasSize reopens threads store name before (updates_in script) log × HaveSizes reopens threads store names befores scripts logs
HaveSizes reopens threads store names befores scripts logs = ⊥

-- the logs of a plan that were left have their sizes
abbrev pub AreSized : {k : ObjectKind} → RunPlan k → List LogLeft → StoreView → Type 0
AreSized plan logs store =
    HaveSizes plan.reopens (length plan.run.scripts) store (log_files plan) plan.run.base.logs plan.run.scripts logs

-- The store has kept what a run left: no call of it failed, its counts of devices rose by the threads whose fence failed and by
-- the fences, one for the header of each log that was begun among them, and each log's file holds its log, whose lines are read back
-- from it and are as many as its script wants.
pub record HasKept {k : ObjectKind} (plan : RunPlan k) (left : RunLeft k) (store kept : StoreView) : Type 0 where
  pub calls : SameFaults store kept
  pub faults : kept.device_faults ≡ counted store.device_faults (broken_threads left.ends)
  pub fences : kept.device_fences ≡ counted store.device_fences (fences_of left.logs + begun_logs plan.run.base.logs)
  pub files : HoldsLogs kept plan.logs 0 left.logs left.ends
  pub fit : AllByRecursion (λ (log : LogLeft). FitFile log.read) left.logs
  pub sizes : AreSized plan left.logs store
  pub others : AllButStay (log_files plan) store kept

-- ---- files over which no device was kept
-- where the store tells its files, the named one begins with the lines of its log as before; each word after them is as it was or zero
abbrev pub StaysOrWipes : StoreView → StoreView → List ℕ → Content → Type 0
StaysOrWipes store after name log = (front : List (List ℕ)) × (content_of front ≡ Some log) × (length front ≡ used_by log)
    × MayWipe name (image_bytes front) store after

-- so stands a file over which no device was kept: that of a log without a head is as it was or holds zeros alone, another begins with
-- its log
abbrev pub StandsByHead : Option LogHead → StoreView → StoreView → List ℕ → Content → Type 0
StandsByHead None store after name log = StaysOrZeros store after name
StandsByHead (Some head) store after name log = StaysOrWipes store after name log

abbrev pub FileStands : StoreView → StoreView → List ℕ → Content → Type 0
FileStands store after name log = StandsByHead log.head store after name log

-- each of these files stands so, by what its log held
abbrev pub AllStand : (List ℕ → Content → Type 0) → List (List ℕ) → List Content → Type 0
AllStand Stands [] [] = Unit {0}
AllStand Stands (name ∷ names) (log ∷ logs) = Stands name log × AllStand Stands names logs
AllStand Stands names logs = ⊥

-- no device was kept: the files of all logs stand so
abbrev pub FilesStand : {k : ObjectKind} → RunPlan k → StoreView → StoreView → Type 0
FilesStand plan store after = AllStand (FileStands store after) (log_files plan) plan.run.base.logs

-- ---- files over which headers were written
-- So stands a file over which no device was kept, where the header of its log may have been written: it stands as where none was, or, its
-- log having had no head, holds what a device may leave on which the header of this head was written.
abbrev pub StandsBegun : StoreView → StoreView → List ℕ → Content → LogHead → Type 0
StandsBegun store after name log head = FileStands store after name log
    ⊎ ((log.head ≡ None) × (store.tells ≡ true → HoldsHeader after name head))

-- so stands each of these files; behind the logs of these heads no header was written
abbrev pub AllBegun : StoreView → StoreView → List (List ℕ) → List Content → (written : List LogHead) → Type 0
AllBegun store after names logs [] = AllStand (FileStands store after) names logs
AllBegun store after [] [] (head ∷ heads) = Unit {0}
AllBegun store after (name ∷ names) (log ∷ logs) (head ∷ heads) =
    StandsBegun store after name log head × AllBegun store after names logs heads
AllBegun store after names logs (head ∷ heads) = ⊥

-- the files of all logs stand so, where the headers of the logs of these heads may have been written
abbrev pub FilesBegun : {k : ObjectKind} → RunPlan k → (written : List LogHead) → StoreView → StoreView → Type 0
FilesBegun plan written store after = AllBegun store after (log_files plan) plan.run.base.logs written

-- ---- files over which devices were kept up to a thread's
-- each of these files holds its log or stands so
abbrev pub HoldOrStand : {State Op Query Reply : Type 0} → (List ℕ → Content → Type 0) → StoreView → List (List ℕ) → List Content
    → List LogLeft → List (List (CallEnd State Op Query Reply)) → Type 0
HoldOrStand Stands after [] [] [] [] = Unit {0}
HoldOrStand Stands after (name ∷ names) (before ∷ befores) (log ∷ logs) (ends ∷ more) =
    (Stands name before ⊎ FileHoldsLog after name log (failed_in ends)) × HoldOrStand Stands after names befores logs more
HoldOrStand Stands after names befores logs ends = ⊥

-- The file of each thread before this one holds its log. Its own does too or stands so, and so does each of the threads after it: their
-- devices were given up, and one over a file of the system has written it at each fence.
abbrev pub HoldTo : {State Op Query Reply : Type 0} → (List ℕ → Content → Type 0) → StoreView → List (List ℕ) → List Content
    → List LogLeft → List (List (CallEnd State Op Query Reply)) → (thread : ℕ) → Type 0
HoldTo Stands after (name ∷ names) (before ∷ befores) (log ∷ logs) (ends ∷ more) zero =
    HoldOrStand Stands after (name ∷ names) (before ∷ befores) (log ∷ logs) (ends ∷ more)
HoldTo Stands after (name ∷ names) (before ∷ befores) (log ∷ logs) (ends ∷ more) (suc t) =
    FileHoldsLog after name log (failed_in ends) × HoldTo Stands after names befores logs more t
HoldTo Stands after names befores logs ends t = ⊥

-- What a run left was handed back to the store, whose counts of devices rose by all of it, and is kept up to this thread's log.
pub record KeptTo {k : ObjectKind} (plan : RunPlan k) (left : RunLeft k) (thread : ℕ) (store after : StoreView) : Type 0 where
  pub files : HoldTo (FileStands store after) after (log_files plan) plan.run.base.logs left.logs left.ends thread
  pub faults : after.device_faults ≡ counted store.device_faults (broken_threads left.ends)
  pub fences : after.device_fences ≡ counted store.device_fences (fences_of left.logs + begun_logs plan.run.base.logs)

-- ---- how it may stop
-- the log of this thread is begun anew: it held no head
abbrev pub IsBegun : ℕ → List Content → Type 0
IsBegun zero (before ∷ logs) = before.head ≡ None
IsBegun (suc t) (before ∷ logs) = IsBegun t logs
IsBegun t [] = ⊥

-- The fence of a thread's header failed, which is that of a log that is begun anew. This line alone is said, nothing is kept, and every
-- device is given up: of the logs up to that thread's, its own among them, the headers of those that were begun were written and fenced.
pub record HeaderFault {k : ObjectKind} (plan : RunPlan k) (store after : StoreView) (text : List ℕ) : Type 0 where
  pub thread : ℕ
  pub within : thread < length plan.run.scripts
  pub begun : IsBegun thread plan.run.base.logs
  pub line : text ≡ line_text (fence_line thread 0)
  pub calls : SameFaults store after
  pub faults : after.device_faults ≡ counted store.device_faults 1
  pub fences : after.device_fences ≡ counted store.device_fences (begun_logs (take (thread + 1) plan.run.base.logs))
  pub files : FilesBegun plan (take (thread + 1) plan.run.heads) store after
  pub others : AllButStay (log_files plan) store after

-- the call that makes a log's device, by its head: it is made anew where there is none, and reopened where there is one
abbrev pub device_call : Option LogHead → FaultKind
device_call None = kinds.Device
device_call (Some head) = kinds.Reopen

-- the call of this kind makes the device of this thread's log
abbrev pub IsCallFor : ℕ → List Content → FaultKind → Type 0
IsCallFor t [] kind = ⊥
IsCallFor zero (before ∷ logs) kind = kind ≡ device_call before.head
IsCallFor (suc t) (before ∷ logs) kind = IsCallFor t logs kind

-- The device of this thread could not be made, and no device was kept. Those before it were given up, of which none was fenced.
pub record PlanNotMade {k : ObjectKind} (plan : RunPlan k) (store after : StoreView) (thread : ℕ) : Type 0 where
  pub kind : FaultKind
  pub call : IsCallFor thread plan.run.base.logs kind
  pub last : after.last ≡ Some (record { kind = kind; name = log_name plan.logs thread })
  pub devices : NoneCounted store after
  pub files : FilesStand plan store after

-- What a run left could not be kept from this thread's device on; those after it were given up.
pub record NotKept {k : ObjectKind} (plan : RunPlan k) (store after : StoreView) (thread : ℕ) : Type 0 where
  pub last : after.last ≡ Some (record { kind = kinds.Keep; name = log_name plan.logs thread })
  pub left : RunLeft k
  pub run : HasRun k.means plan.run left
  pub kept : KeptTo plan left thread store after

-- A thread's device could not be made, or could not be kept: the store's count rose, this line says so, and it is the store's last fault.
pub record DeviceFault {k : ObjectKind} (plan : RunPlan k) (store after : StoreView) (text : List ℕ) : Type 0 where
  pub thread : ℕ
  pub within : thread < length plan.run.scripts
  pub line : text ≡ write_fault_text (log_name plan.logs thread)
  pub rose : Rose store.faults after.faults
  pub cause : PlanNotMade plan store after thread ⊎ NotKept plan store after thread
  pub others : AllButStay (log_files plan) store after

-- a run stops so, and gives nothing
abbrev pub RunStops : {k : ObjectKind} → RunPlan k → StoreView → StoreView → Ending → List ℕ → Type 0
RunStops plan store after WriteFault text = DeviceFault plan store after text
RunStops plan store after Faulty text = HeaderFault plan store after text
RunStops plan store after ending text = ⊥

-- ---- what comes of it
-- A run leaves something, which the store keeps, and of which all that is said reads back; and then this holds.
pub record LeavesKept {k : ObjectKind} (plan : RunPlan k) (store : StoreView) (Next : RunLeft k → StoreView → Type 0) : Type 0 where
  pub left : RunLeft k
  pub kept : StoreView
  pub run : HasRun k.means plan.run left
  pub reads : PlanReads plan left
  pub keeps : HasKept plan left store kept
  pub next : Next left kept

-- The run stops so; or it leaves something, and this goes on from there.
abbrev pub RunGoes : {k : ObjectKind} → RunPlan k → (store after : StoreView) → Ending → List ℕ
    → (RunLeft k → StoreView → Type 0) → Type 0
RunGoes plan store after ending text Next = RunStops plan store after ending text ⊎ LeavesKept plan store Next

-- No device was kept, and no file changed but those of the logs. Headers may have been written.
pub record NoneKept {k : ObjectKind} (plan : RunPlan k) (store after : StoreView) : Type 0 where
  pub files : FilesBegun plan plan.run.heads store after
  pub others : AllButStay (log_files plan) store after

-- What a run left is kept up to the log of some thread, and no file changed but those of the logs.
pub record KeptInPart {k : ObjectKind} (plan : RunPlan k) (store after : StoreView) : Type 0 where
  pub left : RunLeft k
  pub run : HasRun k.means plan.run left
  pub thread : ℕ
  pub kept : KeptTo plan left thread store after
  pub others : AllButStay (log_files plan) store after

-- a run was cut before all that it left was kept: no file changed, or no device was kept, or not all of them
abbrev pub IsCutShort : {k : ObjectKind} → RunPlan k → (store after : StoreView) → Type 0
IsCutShort plan store after = FilesStay store after ⊎ NoneKept plan store after ⊎ KeptInPart plan store after

-- The run was cut short; or it left something, and this was cut.
abbrev pub RunCut : {k : ObjectKind} → RunPlan k → (store after : StoreView) → (RunLeft k → StoreView → Type 0) → Type 0
RunCut plan store after Next = IsCutShort plan store after ⊎ LeavesKept plan store Next
