-- A store in memory: what it is, and how each of its calls ends.

use Rattle.std.specs.Prelude.{ℕ, suc, Bool, true, false, List, [], ◌∷◌, ◌++◌, ◌≡◌, ◌==◌, length, Result, Ok, Err, Option, Some, None, if◌then◌else◌}
use Rattle.std.specs.Str.{bytes_eq}
use Rattle.std.specs.Option.{option_map}
use Rattle.std.specs.String.{string_bytes}
use Rattle.std.specs.List.{list_any}
use Rattle.std.specs.declared.vec.Vec.{Vec}
use Rattle.onll_outside.specs.declared.OutsideFault.{OutsideFault}
use Rattle.onll_outside.specs.declared.OutsideFault.TheVariants.{Failed, NoMemory}
use Rattle.onll_outside.specs.declared.store.FaultKind.TheVariants.{Read, Write, Device, Reopen, Keep}
use Rattle.onll_outside.specs.declared.store.FileLines.{FileLines}
use Rattle.onll_outside.specs.declared.mem_store.Named.{Named}
use Rattle.onll_outside.specs.declared.mem_store.FenceAt.{FenceAt}
use Rattle.onll_pmem.specs.Device.{new_device, fenced_device, image_of}
use Rattle.onll_pmem.specs.Pmem.{DeviceView, words_of}
use Rattle.onll_pmem.specs.Memory.{MemoryState}
use Rattle.onll_outside.specs.Views.{Last, StoreView, IsFrontOfFile, counted, one_fault, with_zeros, image_bytes}
use Rattle.onll_outside.specs.Faults.{one_more}
use Rattle.onll_outside.specs.LineFiles.{FrontHasLines}
use Rattle.onll_outside.specs.declared.directory.LockFault.{LockFault}
use Rattle.onll_outside.specs.declared.directory.LockFault.TheVariants as locks
use Rattle.onll_outside.specs.Directory.{is_locked}

-- a store in memory: names with their bytes, the numbers of the calls that fail, the fences that fail,
-- how many calls there were, how many of them failed, and the last of those; how many devices it made, and what
-- those counted that were handed back; and the names that are locked
pub record FilesHeld : Type 0 where
  pub files : List (List ℕ × List ℕ)
  pub failing : List ℕ
  pub fences : List FenceAt
  pub calls : ℕ
  pub faults : ℕ
  pub last : Option Last
  pub devices : ℕ
  pub device_faults : ℕ
  pub device_fences : ℕ
  pub locked : List (List ℕ)

abbrev pub texts_of : List Named → List (List ℕ × List ℕ)
texts_of [] = []
texts_of (f ∷ fs) = (string_bytes f.name, f.bytes.items) ∷ texts_of fs

-- the bytes of the first file of that name
abbrev pub file_in : List (List ℕ × List ℕ) → List ℕ → Option (List ℕ)
file_in [] name = None
file_in (f ∷ fs) name = if bytes_eq f.0 name then Some f.1 else file_in fs name

-- it tells its files
abbrev pub store_of : FilesHeld → StoreView
store_of s = record {
  tells = true;
  file = file_in s.files;
  faults = s.faults;
  last = s.last;
  device_faults = s.device_faults;
  device_fences = s.device_fences;
}

-- the next call's number is one of those that fail
abbrev pub call_fails : FilesHeld → Bool
call_fails s = list_any (λ n. n == one_more s.calls) s.failing

abbrev pub called : FilesHeld → FilesHeld
called s = record s { calls = one_more s.calls }

-- what the next call finds under a name, unless it is to fail
abbrev pub found : FilesHeld → List ℕ → Option (List ℕ)
found s name = if call_fails s then None else file_in s.files name

-- the store after a call of this kind and name that was a fault
abbrev pub failed : FilesHeld → Last → FilesHeld
failed s this = record (called s) { faults = one_more s.faults; last = Some this }

-- a read is Failed only where nothing is found, and Ok only with the first bytes of what is found
abbrev pub MemReads : {A : Type 0} → FilesHeld → FilesHeld → List ℕ → ℕ → Result (Vec ℕ A) OutsideFault → Type 0
MemReads old new name limit (Ok v) = IsFrontOfFile limit (found old name) v.items × (new ≡ called old)
MemReads old new name limit (Err Failed) =
    (found old name ≡ None) × (new ≡ failed old (record { kind = Read; name = name }))
MemReads old new name limit (Err NoMemory) = new ≡ called old

-- the same of a read of lines, which gives those of the first bytes
abbrev pub MemReadsLines : FilesHeld → FilesHeld → List ℕ → ℕ → Result FileLines OutsideFault → Type 0
MemReadsLines old new name limit (Ok l) =
    FrontHasLines limit (found old name) (words_of l.front.items) l.count × (new ≡ called old)
MemReadsLines old new name limit (Err Failed) =
    (found old name ≡ None) × (new ≡ failed old (record { kind = Read; name = name }))
MemReadsLines old new name limit (Err NoMemory) = new ≡ called old

-- the place of the first file of that name, from 0, or the count of files where there is none
abbrev pub place_in : List (List ℕ × List ℕ) → List ℕ → ℕ
place_in [] name = 0
place_in (f ∷ fs) name = if bytes_eq f.0 name then 0 else suc (place_in fs name)

-- the files after these bytes were written under a name
abbrev pub with_file : List (List ℕ × List ℕ) → List ℕ → List ℕ → List (List ℕ × List ℕ)
with_file [] name bytes = (name, bytes) ∷ []
with_file (f ∷ fs) name bytes = if bytes_eq f.0 name then (f.0, bytes) ∷ fs else f ∷ with_file fs name bytes

-- a write is Failed exactly where it is to fail, unless memory runs out, and changes no file then
abbrev pub MemWrites : FilesHeld → FilesHeld → List ℕ → List ℕ → Result (Unit {0}) OutsideFault → Type 0
MemWrites old new name bytes (Ok done) = (call_fails old ≡ false) × (new ≡ record (called old) { files = with_file old.files name bytes })
MemWrites old new name bytes (Err Failed) = (call_fails old ≡ true) × (new ≡ failed old (record { kind = Write; name = name }))
MemWrites old new name bytes (Err NoMemory) = new ≡ called old

-- which fences of the device of this number are to fail
abbrev pub failing_of : List FenceAt → ℕ → List ℕ
failing_of [] device = []
failing_of (f ∷ fs) device = if f.device == device then f.fence ∷ failing_of fs device else failing_of fs device

-- a device is made exactly where the call isn't to fail, unless memory runs out; its fences fail as was told beforehand
abbrev pub MemMakes : FilesHeld → FilesHeld → List ℕ → ℕ → Result MemoryState OutsideFault → Type 0
MemMakes old new name lines (Ok d) =
    (call_fails old ≡ false) × (d ≡ record { device = new_device lines; failing = failing_of old.fences old.devices })
    × (new ≡ record (called old) { devices = one_more old.devices })
MemMakes old new name lines (Err Failed) = (call_fails old ≡ true) × (new ≡ failed old (record { kind = Device; name = name }))
MemMakes old new name lines (Err NoMemory) = new ≡ called old

-- the store after it made a device of these lines, and the named file of them
abbrev pub reopened : FilesHeld → List ℕ → List (List ℕ) → FilesHeld
reopened s name lines = record s { files = with_file s.files name (image_bytes lines); devices = one_more s.devices }

-- so is a device of lines and zeros after them, which are then its file's
abbrev pub MemReopens : FilesHeld → FilesHeld → List ℕ → List (List ℕ) → ℕ → Result MemoryState OutsideFault → Type 0
MemReopens old new name front lines (Ok d) =
    (call_fails old ≡ false) × (d ≡ record { device = fenced_device (with_zeros front lines); failing = failing_of old.fences old.devices })
    × (new ≡ reopened (called old) name (with_zeros front lines))
MemReopens old new name front lines (Err Failed) = (call_fails old ≡ true) × (new ≡ failed old (record { kind = Reopen; name = name }))
MemReopens old new name front lines (Err NoMemory) = new ≡ called old

-- the store after this device was handed back
abbrev pub back : FilesHeld → DeviceView → FilesHeld
back s d = record s { device_faults = counted s.device_faults (one_fault d.faults); device_fences = counted s.device_fences d.fences }

-- a device is stored as the image of a crash that loses all that is pending, exactly where the call isn't to fail, unless memory runs out
abbrev pub MemStores : FilesHeld → FilesHeld → List ℕ → MemoryState → Result (Unit {0}) OutsideFault → Type 0
MemStores old new name d (Ok done) =
    (call_fails old ≡ false) × (new ≡ record (called old)
    { files = with_file old.files name (image_bytes (image_of d.device 0)) })
MemStores old new name d (Err Failed) = (call_fails old ≡ true) × (new ≡ failed old (record { kind = Keep; name = name }))
MemStores old new name d (Err NoMemory) = new ≡ called old

-- a size is told exactly where the call isn't to fail, unless memory runs out
abbrev pub MemSizes : FilesHeld → FilesHeld → List ℕ → Result (Option ℕ) OutsideFault → Type 0
MemSizes old new name (Ok size) =
    (call_fails old ≡ false) × (size ≡ option_map length (file_in old.files name)) × (new ≡ called old)
MemSizes old new name (Err Failed) = (call_fails old ≡ true) × (new ≡ failed old (record { kind = Read; name = name }))
MemSizes old new name (Err NoMemory) = new ≡ called old

-- a name is locked exactly where the call isn't to fail and it wasn't locked before, unless memory runs out
abbrev pub MemLocks : FilesHeld → FilesHeld → List ℕ → Result (Unit {0}) LockFault → Type 0
MemLocks old new name (Ok done) = (call_fails old ≡ false) × (is_locked old.locked name ≡ false)
    × (new ≡ record (called old) { locked = old.locked ++ name ∷ [] })
MemLocks old new name (Err locks.InUse) = (call_fails old ≡ false) × (is_locked old.locked name ≡ true) × (new ≡ called old)
MemLocks old new name (Err locks.Failed) = (call_fails old ≡ true) × (new ≡ failed old (record { kind = Write; name = name }))
MemLocks old new name (Err locks.NoMemory) = new ≡ called old
