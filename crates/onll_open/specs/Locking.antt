-- The lock of an object's logs: who opens them has it until they are closed, and nobody else opens them then.
use Rattle.std.specs.Prelude.{ℕ, true, false, List, ◌≡◌, Result, Ok, Err, Some}
use Rattle.onll_outside.specs.Directory.{is_locked}
use Rattle.onll_outside.specs.Views.{StoreView, SameFaults, Rose}
use Rattle.onll_outside.specs.declared.store.FaultKind.TheVariants.{Write}
use Rattle.onll_open.specs.declared.fault.FilesFault.{FilesFault}
use Rattle.onll_open.specs.declared.fault.FilesFault.TheVariants as files
use Rattle.onll_open.specs.declared.fault.OpenFault.{OpenFault}
use Rattle.onll_open.specs.declared.fault.OpenFault.TheVariants.{Files, NoMemory}
use Rattle.onll_open.specs.Names.{log_lock_name}

-- where the store tells its files, these logs are not locked, where these names are
abbrev pub AreFree : StoreView → List ℕ → List (List ℕ) → Type 0
AreFree store logs locked = store.tells ≡ true → is_locked locked (log_lock_name logs) ≡ false

-- where the store tells its files, they are
abbrev pub AreInUse : StoreView → List ℕ → List (List ℕ) → Type 0
AreInUse store logs locked = store.tells ≡ true → is_locked locked (log_lock_name logs) ≡ true

-- the outside failed when the logs were to be locked, and that is the last fault
pub record LockFailed (logs : List ℕ) (old new : StoreView) : Type 0 where
  pub rose : Rose old.faults new.faults
  pub last : new.last ≡ Some (record { kind = Write; name = log_lock_name logs })

-- the logs were locked, or why they weren't: in use exactly where they were locked before
abbrev pub LocksLogs : {T : Type 0} → StoreView → List ℕ → List (List ℕ) → List (List ℕ) → Result T FilesFault → Type 0
LocksLogs store logs old new (Ok x) = AreFree store logs old
LocksLogs store logs old new (Err files.InUse) = AreInUse store logs old × (new ≡ old)
LocksLogs store logs old new (Err files.NotLocked) = new ≡ old
LocksLogs store logs old new (Err files.NoMemory) = new ≡ old
LocksLogs store logs old new (Err fault) = ⊥

-- the outside failed exactly where that is the answer
abbrev pub LockingFaults : {T : Type 0} → List ℕ → StoreView → StoreView → Result T FilesFault → Type 0
LockingFaults logs old new (Err files.NotLocked) = LockFailed logs old new
LockingFaults logs old new result = SameFaults old new

-- Who has the logs before and after a call that locks them and gives them back: in use is its answer exactly where they were locked
-- before, and they are free after it where they were free before.
abbrev pub GivesBack : {T : Type 0} → StoreView → List ℕ → List (List ℕ) → List (List ℕ) → Result T FilesFault → Type 0
GivesBack store logs old new (Ok x) = AreFree store logs old × AreFree store logs new
GivesBack store logs old new (Err files.InUse) = AreInUse store logs old × (new ≡ old)
GivesBack store logs old new (Err files.NotLocked) = new ≡ old
GivesBack store logs old new (Err files.NoMemory) = AreFree store logs old → AreFree store logs new
GivesBack store logs old new (Err fault) = AreFree store logs old × AreFree store logs new

-- the same of a call that opens an object over them, and gives them back where it doesn't
abbrev pub OpenLocks : {T : Type 0} → StoreView → List ℕ → List (List ℕ) → List (List ℕ) → Result T OpenFault → Type 0
OpenLocks store logs old new (Ok x) = AreFree store logs old
OpenLocks store logs old new (Err (Files files.InUse)) = AreInUse store logs old × (new ≡ old)
OpenLocks store logs old new (Err (Files files.NotLocked)) = new ≡ old
OpenLocks store logs old new (Err NoMemory) = AreFree store logs old → AreFree store logs new
OpenLocks store logs old new (Err fault) = AreFree store logs old × AreFree store logs new
