-- What `recover INIT LOGS T` does: it says the trace and the state that the logs of one run give.

use Rattle.std.specs.Prelude.{ℕ, List, ◌∷◌, ◌++◌, length}
use Rattle.std.specs.List.{flat_map}
use Rattle.onll_words.specs.Texts.{line_text}
use Rattle.onll_model.specs.Object.{Behaviour}
use Rattle.onll_model.specs.Trace.{state_after}
use Rattle.onll_merge.specs.Recovered.{Recovered}
use Rattle.onll_text.specs.Kinds.{ObjectKind}
use Rattle.onll_text.specs.Wording.{Wording}
use Rattle.onll_text.specs.Lines.{recovered_line, node_lines, state_lines}
use Rattle.onll_text.specs.Reports.{SaysOnly}
use Rattle.onll_task.specs.Doing.{Task, after_stage, report_task}
use Rattle.onll_task.specs.Recovering.{recovery_stage}
use Rattle.onll_task.specs.RecoverySaid.{log_lines, RecoverData, held_lines, RecoverReads, data_with}

-- ---- the report
module _ {State Op Query Reply : Type 0} (b : Behaviour State Op Query Reply) (w : Wording State Op Query Reply) where
  -- the lines of the logs, of the trace, and of this state
  abbrev pub lines_with : Recovered → State → List (List (List ℕ))
  lines_with r s = log_lines 0 r.logs ++ (recovered_line (length r.nodes) ∷ (node_lines b w 0 r.nodes ++ state_lines w s))

  -- the state is that after the trace
  abbrev pub recover_report : State → Recovered → List ℕ
  recover_report s r = flat_map line_text (lines_with r (state_after b s r.nodes))

  -- ---- what the report says
  abbrev pub recover_data_lines : RecoverData State → List (List (List ℕ))
  recover_data_lines said = held_lines 0 said.logs
      ++ (recovered_line (length said.nodes) ∷ (node_lines b w 0 said.nodes ++ state_lines w said.state))

-- the same with the state after the trace
abbrev pub recover_data : {State Op Query Reply : Type 0} → Behaviour State Op Query Reply → State → Recovered → RecoverData State
recover_data b s r = data_with r (state_after b s r.nodes)

-- ---- the work
-- what was recovered is reported: the report says that, and nothing else
abbrev pub recovered_task : (k : ObjectKind) → k.State → Recovered → Task
recovered_task k s r = report_task (recover_report k.means k.wording s r)
    (λ text. SaysOnly (recover_data_lines k.means k.wording) (RecoverReads k.means k.wording) text (recover_data k.means s r))

-- what the logs of so many threads give, over an object of this kind whose initial state these bytes say
abbrev pub recover_task : (k : ObjectKind) → (init logs : List ℕ) → (threads : ℕ) → k.State → Task
recover_task k init logs threads s = after_stage (recovery_stage k init logs threads) (recovered_task k s)
