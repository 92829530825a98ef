use Rattle.std.specs.Prelude.{ℕ, ◌≡◌, List}
use Rattle.onll_model.specs.Object.{Behaviour}
use Rattle.onll_core.specs.Core.{CoreState}
use Rattle.onll_core.specs.Step.{steps_of}
use Rattle.onll_core.specs.Consistent.{IsConsistent}
use Rattle.onll_core.specs.Outcomes.{IsFreshCore}

-- The core of `count` threads is one that steps, in whatever order, reach from a consistent state where no call has begun.
pub record IsReached {State Op Query Reply : Type 0} (b : Behaviour State Op Query Reply) (count : ℕ)
    (c : CoreState State Op Query Reply) : Type 0 where
  pub start : CoreState State Op Query Reply
  pub steps : List ℕ
  pub consistent : IsConsistent count start
  pub fresh : IsFreshCore start
  pub reached : steps_of b start steps ≡ c
