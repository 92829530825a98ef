-- A fact that an object keeps over a service and over whatever a crash leaves of it.
use Rattle.std.specs.Prelude.{ℕ, List, map}
use Rattle.onll_log.specs.declared.head.LogHead.{LogHead}
use Rattle.onll_model.specs.declared.call.Call.{Call}
use Rattle.onll_model.specs.declared.call.CallEnd.{CallEnd}
use Rattle.onll_model.specs.declared.node.Node.{Node}
use Rattle.onll_model.specs.Object.{Behaviour}
use Rattle.onll_model.specs.Trace.{state_after}
use Rattle.onll_outside.specs.Views.{StoreView}
use Rattle.onll_pmem.specs.Pmem.{DeviceView}
use Rattle.onll_run.specs.Ended.{ThreadRun, ends_of, script_of}
use Rattle.onll_serve.specs.declared.service.Served.{Served}
use Rattle.onll_serve.specs.Serving.{HasServed}
use Rattle.onll_keeps.specs.Accounts.{IsSoOnceClosed}
use Rattle.onll_keeps.specs.Facts.{AllTold}

module _ {State Op Query Reply Device : Type 0} (b : Behaviour State Op Query Reply) (holds : State → Type 0)
    (says : Op → Reply → Type 0) where
  -- The fact is so after these nodes, and each update of these threads that was answered has with its reply what it makes of it.
  abbrev pub IsKeptIn : State → List (ThreadRun State Op Query Reply Device) → List Node → Type 0
  IsKeptIn first runs nodes = holds (state_after b first nodes) × AllTold says (map script_of runs) (map ends_of runs)

  module _ {Work Answer : Type 0} (means : Device → DeviceView)
      (promise : Work → Work → List (Call State Op Query Reply) → List (CallEnd State Op Query Reply) → Answer → Type 0) where
    -- The fact was so at first. In whatever way works were served, it is so of what the files held; and, once the object is closed, of all
    -- that was done, and of whatever a crash leaves of it.
    abbrev pub ServesKept : StoreView → List ℕ → List LogHead → State → List Work → StoreView
        → Served State Device Work Answer Op Query Reply → Type 0
    ServesKept store logs heads state works new served = holds state
        × ((h : HasServed b means promise store logs heads state works new served) → holds (state_after b state h.found.nodes)
        × IsSoOnceClosed b means h.onll (IsKeptIn state h.worked.ended.runs) h.worked.ended.runs h.worked.afters logs h.opened new
        served.kept h.worked.closed)
