-- The logs that a run over some base left.

use Rattle.std.specs.Prelude.{◌≡◌, List, IsSome, map}
use Rattle.std.specs.List.{AllByRecursion}
use Rattle.onll_model.specs.declared.node.Node.{Node}
use Rattle.onll_model.specs.declared.call.Call.{Call}
use Rattle.onll_model.specs.Object.{Behaviour}
use Rattle.onll_pmem.specs.Pmem.{DeviceView}
use Rattle.onll_log.specs.declared.head.LogHead.{LogHead}
use Rattle.onll_log.specs.Log.{LogState}
use Rattle.onll_run.specs.Left.{Base, AfterRun, HasRun}
use Rattle.onll_run.specs.Ended.{log_left}

-- a run over some base, whose rows are operations, left this
pub record RanOver {State Op Query Reply : Type 0} (b : Behaviour State Op Query Reply) (state : State) (heads : List LogHead)
    (scripts : List (List (Call State Op Query Reply))) (left : AfterRun State Op Query Reply) : Type 0 where
  pub base : Base
  pub operations : AllByRecursion (λ (n : Node). IsSome (b.op_at n.row)) base.nodes
  pub run : HasRun b (record { state = state; scripts = scripts; heads = heads; base = base }) left

-- a run over some base, whose rows are operations, left these logs and a trace of these nodes
pub record LogsOfRun {State Op Query Reply Device : Type 0} (b : Behaviour State Op Query Reply) (means : Device → DeviceView)
    (state : State) (heads : List LogHead) (nodes : List Node) (logs : List (LogState Device)) : Type 0 where
  pub scripts : List (List (Call State Op Query Reply))
  pub left : AfterRun State Op Query Reply
  pub over : RanOver b state heads scripts left
  pub nodes_are : left.nodes ≡ nodes
  pub logs_are : left.logs ≡ map (log_left means) logs
