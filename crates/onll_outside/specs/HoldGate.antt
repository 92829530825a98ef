-- What contracts see of a gate that holds threads.
use Rattle.std.specs.Prelude.{ℕ, List}
use Rattle.onll_outside.specs.declared.hold_gate.Hold.{Hold}

-- its holds, and how often each loads at most
pub record HoldPlan : Type 0 where
  pub holds : List Hold
  pub turns : ℕ
