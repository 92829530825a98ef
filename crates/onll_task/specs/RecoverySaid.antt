-- What is said of logs that are recovered: what each holds, the trace, and the state after it.

use Rattle.std.specs.Prelude.{ℕ, ◌+◌, ◌<◌, ◌^◌, Bool, true, false, List, [], ◌∷◌, Option, Some, None, codes, decimal, map}
use Rattle.std.specs.List.{All}
use Rattle.onll_model.specs.declared.node.Node.{Node}
use Rattle.onll_model.specs.Object.{Behaviour}
use Rattle.onll_merge.specs.declared.counts.LogCounts.{LogCounts}
use Rattle.onll_merge.specs.Recovered.{Recovered}
use Rattle.onll_text.specs.Wording.{Wording}
use Rattle.onll_text.specs.Lines.{log_line}
use Rattle.onll_text.specs.Reports.{NodeReads, StateReads}

-- ---- the lines of logs
-- the line of a thread's log, by whether it has a head: `log T empty` where it has none
abbrev pub content_line : ℕ → Bool → (entries lines : ℕ) → List (List ℕ)
content_line thread false entries lines = codes "log" ∷ decimal thread ∷ codes "empty" ∷ []
content_line thread true entries lines = log_line thread entries lines None

-- the line of each log, from thread i on
abbrev pub log_lines : ℕ → List LogCounts → List (List (List ℕ))
log_lines i [] = []
log_lines i (log ∷ logs) = content_line i log.head log.entries log.lines ∷ log_lines (i + 1) logs

-- ---- what is said
-- what is said of a log with a head: its entries and its lines
pub record HeldData : Type 0 where
  pub entries : ℕ
  pub lines : ℕ

-- what a report of logs says: of each log, nothing where it has no head; the trace, and the state after it
pub record RecoverData (State : Type 0) : Type 0 where
  pub logs : List (Option HeldData)
  pub nodes : List Node
  pub state : State

abbrev pub held_line : ℕ → Option HeldData → List (List ℕ)
held_line t None = codes "log" ∷ decimal t ∷ codes "empty" ∷ []
held_line t (Some held) = log_line t held.entries held.lines None

-- the line of each log, from thread t on
abbrev pub held_lines : ℕ → List (Option HeldData) → List (List (List ℕ))
held_lines t [] = []
held_lines t (log ∷ logs) = held_line t log ∷ held_lines (t + 1) logs

-- the numbers of a log are of 64 bits
abbrev pub HeldReads : Option HeldData → Type 0
HeldReads None = Unit {0}
HeldReads (Some held) = (held.entries < 2 ^ 64) × (held.lines < 2 ^ 64)

-- all that is said reads back
pub record RecoverReads {State Op Query Reply : Type 0} (b : Behaviour State Op Query Reply)
    (w : Wording State Op Query Reply) (said : RecoverData State) : Type 0 where
  pub logs : All HeldReads said.logs
  pub nodes : All (NodeReads b w) said.nodes
  pub state : StateReads w said.state

abbrev pub held_with : Bool → (entries lines : ℕ) → Option HeldData
held_with false entries lines = None
held_with true entries lines = Some (record { entries = entries; lines = lines })

abbrev pub held_of : LogCounts → Option HeldData
held_of log = held_with log.head log.entries log.lines

-- what the report of a recovery says, with this state
abbrev pub data_with : {State : Type 0} → Recovered → State → RecoverData State
data_with r s = record { logs = map held_of r.logs; nodes = r.nodes; state = s }
