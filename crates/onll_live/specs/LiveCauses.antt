-- Why an object didn't go on over its files: who had it, which log was full, and which call of the outside failed.
use Rattle.std.specs.Prelude.{ℕ, List, [], ◌∷◌, ◌≡◌, ◌-◌, ◌^◌, ◌⊎◌, Option, Result, Ok, Err}
use Rattle.onll_model.specs.Object.{Behaviour}
use Rattle.onll_outside.specs.Views.{StoreView, SameFaults}
use Rattle.onll_open.specs.Files.{SameBut, SameStore}
use Rattle.onll_open.specs.Locking.{AreFree, AreInUse, LockFailed}
use Rattle.onll_live.specs.declared.era.Era.{Era}
use Rattle.onll_live.specs.declared.fault.LiveFault.{LiveFault}
use Rattle.onll_live.specs.declared.fault.LiveFault.TheVariants as faults
use Rattle.onll_live.specs.declared.fault.NextFault.{NextFault}
use Rattle.onll_live.specs.declared.fault.NextFault.TheVariants as next
use Rattle.onll_live.specs.declared.fault.NotLived.{NotLived}
use Rattle.onll_live.specs.declared.living.Turn.{Turn}
use Rattle.onll_live.specs.declared.living.Turn.TheVariants.{HandedBack}
use Rattle.onll_live.specs.Beginning.{IsToEnd}
use Rattle.onll_live.specs.Causes.{NextCause, NextFaults, NextFences}
use Rattle.onll_live.specs.Eras.{IsInEra, area_name, era_base, era_lock}
use Rattle.onll_live.specs.Faults.{EraFaults, IsSettleFault}

-- ---- the lock
-- an object was locked, or why it wasn't: in use exactly where it was locked before
abbrev pub LocksObject : {T : Type 0} → StoreView → List ℕ → List (List ℕ) → List (List ℕ) → Result T LiveFault → Type 0
LocksObject store name old new (Ok lock) = AreFree store (era_base name) old
LocksObject store name old new (Err faults.InUse) = AreInUse store (era_base name) old × (new ≡ old)
LocksObject store name old new (Err faults.NotLocked) = new ≡ old
LocksObject store name old new (Err faults.NoMemory) = new ≡ old
LocksObject store name old new (Err fault) = ⊥

-- the outside failed exactly where that is the answer
abbrev pub LockObjectFaults : {T : Type 0} → List ℕ → StoreView → StoreView → Result T LiveFault → Type 0
LockObjectFaults name old new (Err faults.NotLocked) = LockFailed (era_base name) old new
LockObjectFaults name old new result = SameFaults old new

-- who has an object before and after a refusal: in use is the answer exactly where it was locked before
abbrev pub RefusalLocks : List ℕ → StoreView → StoreView → List (List ℕ) → List (List ℕ) → LiveFault → Type 0
RefusalLocks name old new locked after faults.InUse = AreInUse old (era_base name) locked × (after ≡ locked)
RefusalLocks name old new locked after faults.NotLocked = after ≡ locked
RefusalLocks name old new locked after faults.NoMemory = (after ≡ locked)
    ⊎ (AreFree old (era_base name) locked × AreFree new (era_base name) after)
RefusalLocks name old new locked after fault = AreFree old (era_base name) locked × AreFree new (era_base name) after

-- the same of any answer: an object that was worked on was free before, and is after
abbrev pub LiveLocks : {T Work : Type 0} → List ℕ → StoreView → StoreView → List (List ℕ) → List (List ℕ)
    → Result T (NotLived Work) → Type 0
LiveLocks name old new locked after (Ok lived) = AreFree old (era_base name) locked × AreFree new (era_base name) after
LiveLocks name old new locked after (Err e) = RefusalLocks name old new locked after e.fault

-- ---- why
-- why works aren't served in an era
abbrev pub IsServeFault : LiveFault → Type 0
IsServeFault (faults.NotServed fault) = Unit {0}
IsServeFault faults.NoMemory = Unit {0}
IsServeFault fault = ⊥

-- so are those that a turn hands back
abbrev pub TurnsBack : {State Device Work Answer Op Query Reply : Type 0} → Turn State Device Work Answer Op Query Reply → Type 0
TurnsBack (HandedBack e) = IsServeFault e.fault
TurnsBack turn = Unit {0}

-- why works that were served over eras are handed back: where there was no next era to begin, as many were before as can be counted
abbrev pub StopsServing : LiveFault → ℕ → Type 0
StopsServing (faults.NotServed fault) eras = Unit {0}
StopsServing (faults.NotBegun fault) eras = (fault ≡ next.AtItsEnd) × (eras ≡ 2 ^ 64 - 1)
StopsServing faults.NoMemory eras = Unit {0}
StopsServing fault eras = ⊥

module _ {State Op Query Reply : Type 0} (b : Behaviour State Op Query Reply) (code : ℕ) (description : State → List ℕ)
    (name : List ℕ) (threads : ℕ) where
  -- An era was to end, or there was no memory to tell that, and the next one wasn't begun, for this cause: nothing was done before it was
  -- to begin but to read.
  pub record CannotFollow (old new : StoreView) (era : Era State) (fault : NextFault) : Type 0 where
    pub were : ℕ
    pub ends : (fault ≡ next.NoMemory) ⊎ IsToEnd b code description name threads old era were
    pub start : StoreView
    pub same : SameStore old start
    pub cause : NextCause b code description name were {T = Unit {0}} start era (Err fault)
    pub faults : NextFaults {T = Unit {0}} name era.number were start new (Err fault)
    pub fences : NextFences {T = Unit {0}} start.device_faults new.device_faults (Err fault)

  module _ (read_of : List ℕ → Option State) (first : State) where
    -- The object was found in an era, which was made durable; it was to end, and the next one wasn't begun for this cause. No call failed
    -- before that one was to begin, or after.
    pub record MissesNext (old new : StoreView) (fault : NextFault) : Type 0 where
      pub era : Era State
      pub found : IsInEra read_of first old name era
      pub start : StoreView
      pub others : SameBut (era_lock name ∷ area_name name 0 ∷ area_name name 1 ∷ []) old start
      pub calls : SameFaults old start
      pub end : StoreView
      pub follow : CannotFollow start end era fault
      pub same : SameStore end new

    -- why an object that is locked didn't go on, after so many eras, and which call of the outside failed
    abbrev pub HeldCause : StoreView → StoreView → LiveFault → ℕ → Type 0
    HeldCause old new (faults.NotFound fault) eras = EraFaults {T = Unit {0}} name old new (Err fault)
    HeldCause old new (faults.NotSettled fault) eras = IsSettleFault fault × EraFaults {T = Unit {0}} name old new (Err fault)
    HeldCause old new (faults.NotServed fault) eras = Unit {0}
    HeldCause old new (faults.NotBegun fault) eras = ((eras ≡ 0) × MissesNext old new fault)
        ⊎ ((fault ≡ next.AtItsEnd) × (eras ≡ 2 ^ 64 - 1))
    HeldCause old new faults.NoMemory eras = Unit {0}
    HeldCause old new fault eras = ⊥

    -- the same of one that is locked first
    abbrev pub LiveCause : StoreView → StoreView → LiveFault → ℕ → Type 0
    LiveCause old new faults.InUse eras = SameFaults old new
    LiveCause old new faults.NotLocked eras = LockFailed (era_base name) old new
    LiveCause old new fault eras = HeldCause old new fault eras
