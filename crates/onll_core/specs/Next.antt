-- A core that goes on from what a crash left recovers what it began with, too.

use Rattle.std.specs.Prelude.{ℕ, ◌≡◌, Some, slice_get}
use Rattle.onll_model.specs.declared.call.Call.{Call}
use Rattle.onll_model.specs.declared.call.Call.TheVariants.{Update}
use Rattle.onll_core.specs.declared.phase.Phase.{Phase}
use Rattle.onll_core.specs.Core.{CoreThread, CoreState}
use Rattle.onll_core.specs.Step.{next_call}

-- the thread's next call is this one, and its next step is of this kind
pub record IsNext {State Op Query Reply : Type 0} (c : CoreState State Op Query Reply) (t : ℕ)
    (call : Call State Op Query Reply) (phase : Phase) : Type 0 where
  pub thread : CoreThread State Op Query Reply
  pub here : slice_get c.threads t ≡ Some thread
  pub call_is : next_call thread ≡ Some call
  pub phase_is : thread.phase ≡ phase

-- the thread's next call is an update, and its next step is of this kind
pub record IsUpdating {State Op Query Reply : Type 0} (c : CoreState State Op Query Reply) (t : ℕ) (phase : Phase) : Type 0 where
  pub op : Op
  pub next : IsNext c t (Update op) phase
