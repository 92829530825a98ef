-- What `fold INIT SCRIPT` does.

use Rattle.std.specs.Prelude.{ℕ, List}
use Rattle.onll_model.specs.declared.call.Call.{Call}
use Rattle.onll_model.specs.Object.{Behaviour}
use Rattle.onll_model.specs.Fold.{fold_trace, fold_ends, fold_state}
use Rattle.onll_text.specs.Wording.{Wording}
use Rattle.onll_text.specs.Script.{script_of}
use Rattle.onll_text.specs.Reports.{FoldData, fold_data_lines, FoldDataReads, SaysOnly}
use Rattle.onll_jobs.specs.Fold.{fold_report}
use Rattle.onll_task.specs.Doing.{Task, after_stage, report_task, text_stage}

-- what the report of a fold says
abbrev pub fold_data : {State Op Query Reply : Type 0} → Behaviour State Op Query Reply → State
    → List (Call State Op Query Reply) → FoldData State Op Query Reply
fold_data b s calls = record { ends = fold_ends b s 0 calls; nodes = fold_trace b 0 calls; state = fold_state b s calls }

-- reports calls on an object's state: what their fold gives is said, and nothing else
abbrev pub calls_task : {State Op Query Reply : Type 0} → Behaviour State Op Query Reply → Wording State Op Query Reply
    → State → List (Call State Op Query Reply) → Task
calls_task b w s calls =
    report_task (fold_report b w s calls)
    (λ text. SaysOnly (fold_data_lines b w calls) (FoldDataReads b w calls) text (fold_data b s calls))

-- reads them as a script first
abbrev pub script_task : {State Op Query Reply : Type 0} → Behaviour State Op Query Reply → Wording State Op Query Reply
    → State → List ℕ → Task
script_task b w s script = after_stage (text_stage script (script_of w)) (calls_task b w s)
