-- Why an object's era isn't found or settled, and when the outside has failed.
use Rattle.std.specs.Prelude.{ℕ, List, ◌≡◌, ◌<◌, ◌%◌, ◌⊎◌, Option, Some, None, Result, Ok, Err}
use Rattle.onll_outside.specs.Views.{StoreView, SameFaults, FaultsOf, Rose}
use Rattle.onll_outside.specs.declared.OutsideFault.{OutsideFault}
use Rattle.onll_outside.specs.declared.OutsideFault.TheVariants as outside
use Rattle.onll_outside.specs.declared.store.FaultKind.{FaultKind}
use Rattle.onll_outside.specs.declared.store.FaultKind.TheVariants as kinds
use Rattle.onll_checkpoint.specs.Checkpoint.{CheckpointState}
use Rattle.onll_live.specs.declared.fault.EraFault.{EraFault}
use Rattle.onll_live.specs.declared.fault.EraFault.TheVariants.{BadState, NotRead, NotSettled, NoMemory}
use Rattle.onll_live.specs.Eras.{AreasGive, area_name}

-- a call of this kind failed for the file of this area, and is the last that did
pub record AreaCallFailed (kind : FaultKind) (name : List ℕ) (area : ℕ) (old new : StoreView) : Type 0 where
  pub within : area < 2
  pub rose : Rose old.faults new.faults
  pub last : new.last ≡ Some (record { kind = kind; name = area_name name area })

-- the outside failed exactly where that is the answer
abbrev pub EraFaults : {T : Type 0} → List ℕ → StoreView → StoreView → Result T EraFault → Type 0
EraFaults name old new (Ok x) = SameFaults old new
EraFaults name old new (Err (BadState area)) = SameFaults old new
EraFaults name old new (Err (NotRead area)) = AreaCallFailed kinds.Read name area old new
EraFaults name old new (Err (NotSettled area)) =
    AreaCallFailed kinds.Device name area old new ⊎ AreaCallFailed kinds.Reopen name area old new
    ⊎ AreaCallFailed kinds.Keep name area old new
EraFaults name old new (Err NoMemory) = SameFaults old new

-- no device of the file of this name could be made so, or it could not be kept, exactly where that is the answer
abbrev pub AreaDeviceFaults : {T : Type 0} → FaultKind → List ℕ → StoreView → StoreView → Result T OutsideFault → Type 0
AreaDeviceFaults made file old new result =
    FaultsOf (record { kind = made; name = file }) old new result ⊎ FaultsOf (record { kind = kinds.Keep; name = file }) old new result

-- why nothing is known of an area, where a read of its file was refused so
abbrev pub not_read : ℕ → OutsideFault → EraFault
not_read area outside.Failed = NotRead area
not_read area outside.NoMemory = NoMemory

-- why an area isn't settled, where a device of its file was refused so
abbrev pub not_settled : ℕ → OutsideFault → EraFault
not_settled area outside.Failed = NotSettled area
not_settled area outside.NoMemory = NoMemory

-- an area was not read, or there was no memory
abbrev pub IsReadFault : ℕ → EraFault → Type 0
IsReadFault area (BadState other) = ⊥
IsReadFault area (NotRead other) = other ≡ area
IsReadFault area (NotSettled other) = ⊥
IsReadFault area NoMemory = Unit {0}

-- an area was not read or not settled, or there was no memory
abbrev pub IsSettleFault : EraFault → Type 0
IsSettleFault (BadState area) = ⊥
IsSettleFault fault = Unit {0}

module _ {State : Type 0} (read_of : List ℕ → Option State) where
  -- the checkpoint begins no era, since its text is no state
  pub record IsNoState (newest : Option CheckpointState) (area : ℕ) : Type 0 where
    pub checkpoint : CheckpointState
    pub newest_is : newest ≡ Some checkpoint
    pub area_is : area ≡ checkpoint.number % 2
    pub unread : read_of checkpoint.text ≡ None

  -- why a checkpoint begins no era
  abbrev pub IsBadState : Option CheckpointState → EraFault → Type 0
  IsBadState newest (BadState area) = IsNoState newest area
  IsBadState newest (NotRead area) = ⊥
  IsBadState newest (NotSettled area) = ⊥
  IsBadState newest NoMemory = Unit {0}

  -- why an object over the files of this name is in no era
  abbrev pub CannotFind : StoreView → List ℕ → EraFault → Type 0
  CannotFind store name (BadState area) = (newest : Option CheckpointState) × AreasGive store name newest × IsNoState newest area
  CannotFind store name (NotRead area) = Unit {0}
  CannotFind store name (NotSettled area) = ⊥
  CannotFind store name NoMemory = Unit {0}
