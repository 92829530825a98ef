-- The files of logs that are kept.
use Rattle.std.specs.Prelude.{ℕ, zero, suc, List, [], ◌∷◌, ◌≡◌, map, Result, Err}
use Rattle.std.specs.List.{AllByRecursion}
use Rattle.onll_pmem.specs.Pmem.{DeviceView}
use Rattle.onll_outside.specs.LineFiles.{IsWholeLine}
use Rattle.onll_outside.specs.Views.{StoreView, FaultsOf, KeepsDevice, MayKeep, SameFiles, HandsEach}
use Rattle.onll_outside.specs.declared.OutsideFault.{OutsideFault}
use Rattle.onll_outside.specs.declared.store.FaultKind.TheVariants.{Keep}
use Rattle.onll_trace.specs.declared.trace.Ended.{Ended}
use Rattle.onll_shared.specs.Ends.{HasClosed}
use Rattle.onll_shared.specs.Passes.{OnllView, PassView}
use Rattle.onll_open.specs.declared.keeping.CloseFault.{CloseFault}
use Rattle.onll_open.specs.declared.keeping.CloseFault.TheVariants.{NoMemory, NotKept}
use Rattle.onll_open.specs.Files.{SameCounts}
use Rattle.onll_open.specs.Locking.{AreFree}
use Rattle.onll_open.specs.Names.{log_name}

-- each device was kept as its thread's file, from thread t on
abbrev pub AreKept : List ℕ → ℕ → List DeviceView → StoreView → Type 0
AreKept logs t [] store = Unit {0}
AreKept logs t (d ∷ ds) store = KeepsDevice store (log_name logs t) d × AreKept logs (suc t) ds store

-- each line of these devices has eight words of 64 bits, so that the bytes of a file say them
abbrev pub AreWhole : List DeviceView → Type 0
AreWhole ds = AllByRecursion (λ (d : DeviceView). AllByRecursion IsWholeLine d.read) ds

-- Where the store tells its files, each thread's, from thread t on, is as it was or holds an image of its device. A device that is given
-- up leaves its file so: one over a file of the system writes it at each fence.
abbrev pub MayKeepEach : List ℕ → ℕ → List DeviceView → StoreView → StoreView → Type 0
MayKeepEach logs t [] old new = Unit {0}
MayKeepEach logs t (d ∷ ds) old new = MayKeep (log_name logs t) d old new × MayKeepEach logs (suc t) ds old new

-- This many devices were kept as their threads' files, from thread t on. The file of the next, and of each after it, is as it was or
-- holds an image of its device.
abbrev pub AreKeptTo : List ℕ → ℕ → List DeviceView → (kept : ℕ) → StoreView → StoreView → Type 0
AreKeptTo logs t [] kept old new = ⊥
AreKeptTo logs t (d ∷ ds) zero old new = MayKeepEach logs t (d ∷ ds) old new
AreKeptTo logs t (d ∷ ds) (suc kept) old new = KeepsDevice new (log_name logs t) d × AreKeptTo logs (suc t) ds kept old new

-- The devices before that of this thread were kept, and that one could not be. Those after it were given up.
pub record KeepFails (logs : List ℕ) (ds : List DeviceView) (old new : StoreView) (thread : ℕ) (fault : OutsideFault) : Type 0 where
  pub files : AreKeptTo logs 0 ds thread old new
  pub faults : FaultsOf {T = Unit {0}} (record { kind = Keep; name = log_name logs thread }) old new (Err fault)

abbrev pub device_in : {State Device : Type 0} → PassView State Device → Device
device_in pass = pass.log.device

-- the devices of the logs of these passes, as they are seen
abbrev pub devices_in : {State Device : Type 0} → (Device → DeviceView) → List (PassView State Device) → List DeviceView
devices_in means passes = map (λ (pass : PassView _ _). means (device_in pass)) passes

-- why an object was not closed, or not every log of it kept, and what that leaves
abbrev pub CannotClose : {State Op Query Reply Device : Type 0} → (Device → DeviceView) → OnllView State
    → List (PassView State Device) → List ℕ → StoreView → StoreView → CloseFault State Device Op Query Reply → Type 0
CannotClose means onll passes logs old new (NoMemory unclosed) =
    (unclosed.object ≡ onll) × (unclosed.passes.items ≡ passes) × SameFiles old new × SameCounts old new
CannotClose means onll passes logs old new (NotKept fault) =
    KeepFails logs (devices_in means passes) old new fault.thread fault.fault × HandsEach (devices_in means passes) old new
    × ((trace : List Ended) × HasClosed onll.trace passes trace)

-- the logs of an object that was closed are free; where it wasn't, they are locked as they were
abbrev pub CloseLocks : {State Op Query Reply Device T : Type 0} → StoreView → List ℕ → List (List ℕ) → List (List ℕ)
    → Result T (CloseFault State Device Op Query Reply) → Type 0
CloseLocks store logs old new (Err (NoMemory unclosed)) = new ≡ old
CloseLocks store logs old new result = AreFree store logs new
