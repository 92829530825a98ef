-- Scripts that were done on the passes of one object.
use Rattle.std.specs.Prelude.{ℕ, List, ◌≡◌, Ok}
use Rattle.onll_model.specs.declared.node.Node.{Node}
use Rattle.onll_model.specs.declared.call.Call.{Call}
use Rattle.onll_model.specs.Object.{Behaviour}
use Rattle.onll_pmem.specs.Pmem.{DeviceView}
use Rattle.onll_log.specs.declared.head.LogHead.{LogHead}
use Rattle.onll_log.specs.Grammar.{Content}
use Rattle.onll_log.specs.Log.{LogState}
use Rattle.onll_merge.specs.Merge.{merge}
use Rattle.onll_shared.specs.Passes.{OnllView, PassView}
use Rattle.onll_shared.specs.Starts.{HasBegun}
use Rattle.onll_run.specs.declared.worker.WorkerEnd.{WorkerEnd}
use Rattle.onll_run.specs.Crew.{AreDone}
use Rattle.onll_run.specs.Making.{AreOpen}

-- The logs were opened or begun on the devices, an object in this state went on from the nodes that they hold, and each script was done
-- on the pass at its place.
pub record HaveDone {State Op Query Reply Device : Type 0} (b : Behaviour State Op Query Reply) (means : Device → DeviceView)
    (state : State) (heads : List LogHead) (befores : List Content) (scripts : List (List (Call State Op Query Reply)))
    (devices : List Device) (nodes : List Node) (onll : OnllView State) (all : List (WorkerEnd State Device Op Query Reply)) : Type 0 where
  pub logs : List (LogState Device)
  pub rooms : List ℕ
  pub passes : List (PassView State Device)
  pub first : onll.first ≡ state
  pub base : onll.trace.plan.base ≡ nodes
  pub open_on : AreOpen means heads befores devices logs
  pub held : merge heads befores ≡ Ok nodes
  pub begun : HasBegun b means onll logs rooms passes
  pub done : AreDone b means onll scripts passes all
