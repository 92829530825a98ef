use Rattle.std.specs.Prelude.{ℕ, Bool, List}
use Rattle.onll_model.specs.declared.node.Node.{Node}
use Rattle.onll_model.specs.declared.call.Call.{Call}
use Rattle.onll_pmem.specs.Device.{DeviceState}
use Rattle.onll_log.specs.declared.head.LogHead.{LogHead}
use Rattle.onll_core.specs.declared.phase.Phase.{Phase}
use Rattle.onll_core.specs.declared.returned.Returned.{Returned}

-- The state of a step core, as plain data.

-- one thread: the head of its log, its script, what has returned, what its next step does, the clock at the first step of
-- its running call, how many lines of its log are used by how many entries, how many fences its device had made when this
-- generation began, and its device
pub record CoreThread (State Op Query Reply : Type 0) : Type 0 where
  pub head : LogHead
  pub script : List (Call State Op Query Reply)
  pub returned : List (Returned State Op Query Reply)
  pub phase : Phase
  pub began : ℕ
  pub used : ℕ
  pub logged : ℕ
  pub before : ℕ
  pub device : DeviceState

-- the object's initial state, the length of the base of recovered nodes with which the trace begins, the trace, the flag
-- of each node, the clock, which counts the steps of all threads, and the threads
pub record CoreState (State Op Query Reply : Type 0) : Type 0 where
  pub initial : State
  pub base : ℕ
  pub trace : List Node
  pub flags : List Bool
  pub clock : ℕ
  pub threads : List (CoreThread State Op Query Reply)
