-- What is said of a run: what became of each call, the trace, the logs, and the state after the trace.

use Rattle.std.specs.Prelude.{ℕ, ◌≡◌, ◌<◌, ◌≤◌, ◌^◌, Bool, true, false, List, Option, Some, None, length, map, [], ◌∷◌, codes, decimal}
use Rattle.std.specs.List.{All}
use Rattle.std.specs.Option.{IfSome}
use Rattle.onll_model.specs.declared.node.Node.{Node}
use Rattle.onll_model.specs.declared.call.Call.{Call}
use Rattle.onll_model.specs.declared.call.CallEnd.{CallEnd}
use Rattle.onll_model.specs.Object.{Behaviour}
use Rattle.onll_model.specs.Trace.{state_after}
use Rattle.onll_log.specs.Grammar.{used_by}
use Rattle.onll_run.specs.Left.{AfterRun, LogLeft, content_in}
use Rattle.onll_text.specs.Wording.{Wording}
use Rattle.onll_text.specs.Lines.{LogData}
use Rattle.onll_text.specs.Reports.{NodeReads, StateReads, LogReads, EachReads}

-- What is said: how many nodes the threads go on from, where they do, what became of the calls of each, the trace with its flags, the
-- logs, and the state after the trace.
pub record RunData (State Op Query Reply : Type 0) : Type 0 where
  pub resumed : Option ℕ
  pub ends : List (List (CallEnd State Op Query Reply))
  pub nodes : List Node
  pub flags : List Bool
  pub logs : List LogData
  pub state : State

-- all that is said reads back
pub record RunReads {State Op Query Reply : Type 0} (b : Behaviour State Op Query Reply) (w : Wording State Op Query Reply)
    (scripts : List (List (Call State Op Query Reply))) (said : RunData State Op Query Reply) : Type 0 where
  pub threads : length scripts ≤ 2 ^ 64
  pub resumed : IfSome said.resumed (λ nodes. nodes < 2 ^ 64)
  pub ends : EachReads w scripts said.ends
  pub nodes : All (NodeReads b w) said.nodes
  pub flags : length said.flags ≡ length said.nodes
  pub logs : All LogReads said.logs
  pub few : length said.nodes < 2 ^ 64
  pub state : StateReads w said.state

-- ---- of what a run left
-- what is said of a log: its entries, the lines that it uses, and its fences after the header's, or since it was opened
abbrev pub log_data : LogLeft → LogData
log_data log = record { entries = length log.entries; lines = used_by (content_in log); fences = log.fences }

-- what is said of a run that left this, from this state on, where it goes on from so many nodes or from none
abbrev pub run_data : {State Op Query Reply : Type 0} → Behaviour State Op Query Reply → Option ℕ → State → AfterRun State Op Query Reply
    → RunData State Op Query Reply
run_data b resumed state left = record {
  resumed = resumed;
  ends = left.ends;
  nodes = left.nodes;
  flags = left.flags;
  logs = map log_data left.logs;
  state = state_after b state left.nodes;
}

-- how many nodes are said to be gone on from: those of the base, where logs are reopened
abbrev pub resumed_by : Bool → ℕ → Option ℕ
resumed_by false nodes = None
resumed_by true nodes = Some nodes

-- the line of how many nodes are gone on from; none where a run begins anew
abbrev pub resumed_lines : Option ℕ → List (List (List ℕ))
resumed_lines None = []
resumed_lines (Some nodes) = (codes "resumed" ∷ decimal nodes ∷ []) ∷ []
