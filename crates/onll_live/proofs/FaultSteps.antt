-- Faults of calls that come one after the other.
use Rattle.std.proofs.Common.{ℕ, List, inl, inr, Err, Option, ◌∙◌, subst}
use Rattle.onll_outside.specs.Views.{StoreView, SameFaults, Rose}
use Rattle.onll_outside.specs.declared.OutsideFault.{OutsideFault}
use Rattle.onll_outside.specs.declared.OutsideFault.TheVariants.{Failed, NoMemory}
use Rattle.onll_outside.specs.declared.store.FaultKind.{FaultKind}
use Rattle.onll_outside.specs.declared.store.FaultKind.TheVariants as kinds
use Rattle.onll_checkpoint.specs.Checkpoint.{CheckpointState}
use Rattle.onll_live.specs.declared.fault.EraFault.{EraFault}
use Rattle.onll_live.specs.declared.fault.EraFault.TheVariants as eras
use Rattle.onll_live.specs.Eras.{AreasGive}
use Rattle.onll_live.specs.Faults.{AreaCallFailed, CannotFind, EraFaults, IsBadState, IsSettleFault, not_read, not_settled}

-- ---- a call that failed
call_since : (kind : FaultKind) (name : List ℕ) (area : ℕ) (old mid new : StoreView) → SameFaults old mid → AreaCallFailed kind name area mid new → AreaCallFailed kind name area old new
call_since kind name area old mid new first h = record { within = h.within; rose = subst (λ n. Rose n new.faults) first.0 h.rose; last = h.last }

pub era_fault_since : (T : Type 0) (name : List ℕ) (old mid new : StoreView) (fault : EraFault) → SameFaults old mid → EraFaults {T = T} name mid new (Err fault)
    → EraFaults {T = T} name old new (Err fault)
era_fault_since T name old mid new (eras.BadState area) first h = (h.0 ∙ first.0, h.1 ∙ first.1)
era_fault_since T name old mid new (eras.NotRead area) first h = call_since kinds.Read name area old mid new first h
era_fault_since T name old mid new (eras.NotSettled area) first (inl h) = inl (call_since kinds.Device name area old mid new first h)
era_fault_since T name old mid new (eras.NotSettled area) first (inr (inl h)) = inr (inl (call_since kinds.Reopen name area old mid new first h))
era_fault_since T name old mid new (eras.NotSettled area) first (inr (inr h)) = inr (inr (call_since kinds.Keep name area old mid new first h))
era_fault_since T name old mid new eras.NoMemory first h = (h.0 ∙ first.0, h.1 ∙ first.1)

-- ---- no era is found
module _ {State : Type 0} (read_of : List ℕ → Option State) (store : StoreView) (name : List ℕ) where
  pub bad_refused : (newest : Option CheckpointState) (fault : EraFault) → AreasGive store name newest → IsBadState read_of newest fault → CannotFind read_of store name fault
  bad_refused newest (eras.BadState area) given h = (newest, given, h)
  bad_refused newest (eras.NotRead area) given h = tt
  bad_refused newest (eras.NotSettled area) given h = absurd h
  bad_refused newest eras.NoMemory given h = tt

-- ---- settling
pub unread_settles : (area : ℕ) (fault : OutsideFault) → IsSettleFault (not_read area fault)
unread_settles area Failed = tt
unread_settles area NoMemory = tt

pub unkept_settles : (area : ℕ) (fault : OutsideFault) → IsSettleFault (not_settled area fault)
unkept_settles area Failed = tt
unkept_settles area NoMemory = tt
