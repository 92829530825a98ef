-- The report of a fold: the lines of thread 0's calls, the trace, its nodes, and the state after them.

use Rattle.std.specs.Prelude.{ℕ, List, ◌∷◌, ◌++◌, length}
use Rattle.std.specs.List.{flat_map}
use Rattle.onll_words.specs.Texts.{line_text}
use Rattle.onll_model.specs.declared.call.Call.{Call}
use Rattle.onll_model.specs.Object.{Behaviour}
use Rattle.onll_model.specs.Fold.{fold_trace, fold_ends, fold_state}
use Rattle.onll_text.specs.Wording.{Wording}
use Rattle.onll_text.specs.Lines.{call_lines, trace_line, node_lines, state_lines}

abbrev pub fold_lines : {State Op Query Reply : Type 0} → Behaviour State Op Query Reply → Wording State Op Query Reply
    → State → List (Call State Op Query Reply) → List (List (List ℕ))
fold_lines b w s calls =
    call_lines w 0 0 calls (fold_ends b s 0 calls)
    ++ (trace_line (length (fold_trace b 0 calls)) ∷ (node_lines b w 0 (fold_trace b 0 calls) ++ state_lines w (fold_state b s calls)))

abbrev pub fold_report : {State Op Query Reply : Type 0} → Behaviour State Op Query Reply → Wording State Op Query Reply
    → State → List (Call State Op Query Reply) → List ℕ
fold_report b w s calls = flat_map line_text (fold_lines b w s calls)
