-- Why a service of an object that keeps a fact didn't begin.
use Rattle.std.specs.Prelude.{ℕ, List, ◌≡◌, Result, Ok, Err}
use Rattle.onll_log.specs.declared.head.LogHead.{LogHead}
use Rattle.onll_model.specs.Object.{Behaviour}
use Rattle.onll_outside.specs.Views.{StoreView}
use Rattle.onll_open.specs.Locking.{AreFree}
use Rattle.onll_serve.specs.declared.service.Served.{Served}
use Rattle.onll_serve.specs.Serving.{CannotServe, GivenBack, RefusedLocks}
use Rattle.onll_keeps.specs.declared.served.BeginFault.{BeginFault}
use Rattle.onll_keeps.specs.declared.served.BeginFault.TheVariants.{MayNotBegin, NotServed}
use Rattle.onll_keeps.specs.declared.served.NotBegun.{NotBegun}

-- The fact is not so of the state at first, and nothing was changed; or it is, and the service didn't begin.
abbrev pub CannotBegin : {State Op Query Reply : Type 0} → Behaviour State Op Query Reply → (State → Type 0) → State → List ℕ
    → List LogHead → ℕ → StoreView → StoreView → BeginFault → Type 0
CannotBegin b holds state logs heads works old new MayNotBegin = (holds state → ⊥) × (new ≡ old)
CannotBegin b holds state logs heads works old new (NotServed fault) = holds state × CannotServe b logs heads works old new fault

-- who has the logs where it didn't begin
abbrev pub UnbegunLocks : StoreView → List ℕ → List (List ℕ) → List (List ℕ) → BeginFault → Type 0
UnbegunLocks store logs old new MayNotBegin = new ≡ old
UnbegunLocks store logs old new (NotServed fault) = RefusedLocks store logs old new fault

-- who has the logs before and after
abbrev pub BeginLocks : {State Device Work Answer Op Query Reply : Type 0} → StoreView → List ℕ → List (List ℕ) → List (List ℕ)
    → Result (Served State Device Work Answer Op Query Reply) (NotBegun Work) → Type 0
BeginLocks store logs old new (Ok served) = AreFree store logs old × GivenBack store logs new served.kept
BeginLocks store logs old new (Err refused) = UnbegunLocks store logs old new refused.fault
