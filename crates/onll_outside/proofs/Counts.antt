use Rattle.std.proofs.Common.{ℕ, ◌-◌, ◌≤◌, List, Result, Ok, Err, arith}
use Rattle.onll_outside.specs.declared.OutsideFault.{OutsideFault}
use Rattle.onll_outside.specs.declared.OutsideFault.TheVariants.{Failed, NoMemory}
use Rattle.onll_outside.specs.Views.{Last, StoreView, SinkView, FaultsOf, PutOf}

-- a store's count never falls
pub faults-le : {T : Type 0} (this : Last) (old new : StoreView) (r : Result T OutsideFault) → FaultsOf this old new r → old.faults ≤ new.faults
faults-le this old new (Ok x) h = omega arith
faults-le this old new (Err Failed) h = omega arith
faults-le this old new (Err NoMemory) h = omega arith

-- a sink's count never falls
pub put_faults-le : {T : Type 0} (old new : SinkView) (bytes : List ℕ) (r : Result T OutsideFault) → PutOf old new bytes r → old.faults ≤ new.faults
put_faults-le old new bytes (Ok x) h = omega arith
put_faults-le old new bytes (Err Failed) h = omega arith
put_faults-le old new bytes (Err NoMemory) h = omega arith
