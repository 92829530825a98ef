-- A device that a store makes, and keeps as a file once its lines are durable; and what is left where that fails.

use Rattle.std.specs.Prelude.{ℕ, List, ◌≡◌, ◌⊎◌, ◌≤◌, true, Some, Result, Ok, Err}
use Rattle.onll_outside.specs.Views.{StoreView, SameFaults, SameDevices, Rose, AreZeros, counted, image_bytes}
use Rattle.onll_outside.specs.declared.OutsideFault.TheVariants.{Failed, NoMemory}
use Rattle.onll_outside.specs.declared.store.FaultKind.TheVariants as kinds
use Rattle.onll_areas.specs.declared.fault.KeepFault.{KeepFault}
use Rattle.onll_areas.specs.declared.fault.KeepFault.TheVariants.{Outside, FenceFailed}

-- ---- files
-- where the store tells its files, none changed but perhaps that of this name
pub record OthersStay (name : List ℕ) (old new : StoreView) : Type 0 where
  pub tells : new.tells ≡ old.tells
  pub file : old.tells ≡ true → (other : List ℕ) → (other ≡ name → ⊥) → new.file other ≡ old.file other

-- where the store tells its files, the named one is as it was, or holds zeros alone
abbrev pub StaysOrZeros : StoreView → StoreView → List ℕ → Type 0
StaysOrZeros store after name = store.tells ≡ true
    → (after.file name ≡ store.file name) ⊎ ((bytes : List ℕ) × (after.file name ≡ Some bytes) × AreZeros bytes)

-- however it ends: where the store tells its files, the named one is as it was, or holds zeros alone, or these lines
pub record MayKeepLines (store after : StoreView) (name : List ℕ) (lines : List (List ℕ)) : Type 0 where
  pub file : store.tells ≡ true → (after.file name ≡ store.file name)
      ⊎ ((bytes : List ℕ) × (after.file name ≡ Some bytes) × AreZeros bytes)
      ⊎ (after.file name ≡ Some (image_bytes lines))
  pub others : OthersStay name store after

-- ---- how it ends
-- The device was kept: no call failed, the store's count of fences rose by these, and, where it tells its files, the named one holds
-- these lines. No other file changed.
pub record HasKeptLines (store kept : StoreView) (name : List ℕ) (lines : List (List ℕ)) (fences : ℕ) : Type 0 where
  pub calls : SameFaults store kept
  pub faults : kept.device_faults ≡ counted store.device_faults 0
  pub fences_are : kept.device_fences ≡ counted store.device_fences fences
  pub file : store.tells ≡ true → kept.file name ≡ Some (image_bytes lines)
  pub others : OthersStay name store kept

-- The device could not be made: the store's count rose, and that call is its last fault. No device was handed back.
pub record DeviceNotMade (store after : StoreView) (name : List ℕ) : Type 0 where
  pub rose : Rose store.faults after.faults
  pub last : after.last ≡ Some (record { kind = kinds.Device; name = name })
  pub devices : SameDevices store after
  pub file : StaysOrZeros store after name
  pub others : OthersStay name store after

-- The device, all of whose fences held, could not be kept: the store's count rose, and that call is its last fault. Its file may hold
-- the lines all the same.
pub record DeviceNotKept (store after : StoreView) (name : List ℕ) (lines : List (List ℕ)) (fences : ℕ) : Type 0 where
  pub rose : Rose store.faults after.faults
  pub last : after.last ≡ Some (record { kind = kinds.Keep; name = name })
  pub faults : after.device_faults ≡ counted store.device_faults 0
  pub fences_are : after.device_fences ≡ counted store.device_fences fences
  pub leaves : MayKeepLines store after name lines

-- A fence of the device failed, the last that was made, and it was given up: no call of the store failed, and its count of devices
-- with a fault rose by one.
pub record FenceNotMade (store after : StoreView) (name : List ℕ) (fences : ℕ) : Type 0 where
  pub calls : SameFaults store after
  pub faults : after.device_faults ≡ counted store.device_faults 1
  pub made : ℕ
  pub some : 1 ≤ made
  pub within : made ≤ fences
  pub fences_are : after.device_fences ≡ counted store.device_fences made
  pub file : StaysOrZeros store after name
  pub others : OthersStay name store after

-- Memory could not be had: no call of the store failed, and no device with a fault was handed back. Where no device was made either, none
-- was handed back.
pub record KeepOutOfMemory (store after : StoreView) (name : List ℕ) (lines : List (List ℕ)) : Type 0 where
  pub calls : SameFaults store after
  pub faults : (after.device_faults ≡ store.device_faults) ⊎ (after.device_faults ≡ counted store.device_faults 0)
  pub leaves : MayKeepLines store after name lines

-- a device with these lines, durable after so many fences, was to be kept as the file of this name
abbrev pub KeepEnds : (store after : StoreView) (name : List ℕ) (lines : List (List ℕ)) (fences : ℕ) → Result (Unit {0}) KeepFault → Type 0
KeepEnds store after name lines fences (Ok done) = HasKeptLines store after name lines fences
KeepEnds store after name lines fences (Err (Outside Failed)) =
    DeviceNotMade store after name ⊎ DeviceNotKept store after name lines fences
KeepEnds store after name lines fences (Err (Outside NoMemory)) = KeepOutOfMemory store after name lines
KeepEnds store after name lines fences (Err FenceFailed) = FenceNotMade store after name fences
