-- Why nothing is told of a trace.

use Rattle.std.specs.Prelude.{List, ◌≡◌, ◌+◌, ◌<◌, length}
use Rattle.onll_model.specs.declared.node.Node.{Node}
use Rattle.onll_model.specs.Object.{Behaviour}
use Rattle.onll_model.specs.Recovered.{operations_front}
use Rattle.onll_detect.specs.declared.outcome.DetectFault.{DetectFault}
use Rattle.onll_detect.specs.declared.outcome.DetectFault.TheVariants.{NotOp, NoMemory}

-- the first node whose row is no operation is named
abbrev pub FaultOf : {State Op Query Reply : Type 0} → Behaviour State Op Query Reply → List Node → DetectFault → Type 0
FaultOf b nodes (NotOp place) = (place ≡ length (operations_front b nodes) + 1) × (length (operations_front b nodes) < length nodes)
FaultOf b nodes NoMemory = Unit {0}
