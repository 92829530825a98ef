-- What `detect INIT LOGS SCRIPT..` does: it recovers the logs of a run of these scripts, and says of each update whether it took effect.

use Rattle.std.specs.Prelude.{ℕ, ◌≡◌, ◌+◌, Bool, false, List, [], ◌∷◌, ◌++◌, Option, Some, None, if◌then◌else◌, codes, decimal, length, map, slice_get}
use Rattle.std.specs.List.{flat_map}
use Rattle.onll_words.specs.declared.line.OpRow.{OpRow}
use Rattle.onll_words.specs.Texts.{line_text}
use Rattle.onll_model.specs.declared.node.Node.{Node}
use Rattle.onll_model.specs.declared.call.Call.{Call}
use Rattle.onll_model.specs.declared.call.Call.TheVariants.{Update, Ask}
use Rattle.onll_model.specs.declared.call.CallEnd.TheVariants.{Answered}
use Rattle.onll_model.specs.Object.{Behaviour}
use Rattle.onll_log.specs.Grammar.{same_words}
use Rattle.onll_merge.specs.Recovered.{Recovered}
use Rattle.onll_detect.specs.declared.outcome.Outcome.{Outcome}
use Rattle.onll_detect.specs.declared.outcome.Outcome.TheVariants.{Took, Lost}
use Rattle.onll_detect.specs.Outcomes.{Table, table_of, find_in, numbered_in}
use Rattle.onll_text.specs.Kinds.{ObjectKind}
use Rattle.onll_text.specs.Wording.{Wording}
use Rattle.onll_text.specs.Lines.{call_line, recovered_line}
use Rattle.onll_task.specs.declared.ending.Ending.TheVariants.{BadLog}
use Rattle.onll_task.specs.Doing.{Task, after_stage, report_task, say_task}
use Rattle.onll_task.specs.Recovering.{recovery_stage}
use Rattle.onll_task.specs.Scripts.{scripts_stage}

-- ---- the report
module _ {State Op Query Reply : Type 0} (w : Wording State Op Query Reply) where
  -- The line of an update, which is call number k of a thread, and of what became of it: `call T K CALL -> REPLY at P`, or
  -- `call T K CALL -> lost`.
  abbrev pub outcome_line : (t k : ℕ) → Op → Outcome Reply → List (List ℕ)
  outcome_line t k op (Took place reply) =
      call_line w t k (let call : Call State Op Query Reply = Update op in call) (Answered reply place)
  outcome_line t k op Lost = codes "call" ∷ decimal t ∷ decimal k ∷ (w.op_words op ++ codes "->" ∷ codes "lost" ∷ [])

  -- the line of each update of a thread, after so many calls, of which so many are updates
  abbrev pub update_lines : Table Reply → (t calls updates : ℕ) → List (Call State Op Query Reply) → List (List (List ℕ))
  update_lines table t calls updates [] = []
  update_lines table t calls updates (Update op ∷ script) =
      outcome_line t (calls + 1) op (find_in table t (updates + 1)) ∷ update_lines table t (calls + 1) (updates + 1) script
  update_lines table t calls updates (Ask query ∷ script) = update_lines table t (calls + 1) updates script

  -- those of all threads, from thread t on
  abbrev pub scripts_lines : Table Reply → ℕ → List (List (Call State Op Query Reply)) → List (List (List ℕ))
  scripts_lines table t [] = []
  scripts_lines table t (script ∷ scripts) = update_lines table t 0 0 script ++ scripts_lines table (t + 1) scripts

  -- and how many nodes are recovered
  abbrev pub detect_lines : Table Reply → List (List (Call State Op Query Reply)) → ℕ → List (List (List ℕ))
  detect_lines table scripts nodes = scripts_lines table 0 scripts ++ recovered_line nodes ∷ []

-- ---- logs of other scripts
-- the rows of a script's updates, in order
abbrev pub update_rows : {State Op Query Reply : Type 0} → Behaviour State Op Query Reply → List (Call State Op Query Reply) → List OpRow
update_rows b [] = []
update_rows b (Update op ∷ script) = b.row_of op ∷ update_rows b script
update_rows b (Ask query ∷ script) = update_rows b script

abbrev pub is_row : OpRow → Option OpRow → Bool
is_row row None = false
is_row row (Some own) = same_words own.w row.w

-- whether a node is the update of its number in its thread's script, where these are the rows of each script's updates
abbrev pub is_in_script : List (List OpRow) → Node → Bool
is_in_script rows node = is_row node.row (numbered_in (slice_get rows node.thread) node.number)

-- the first place, above p, whose node is none
abbrev pub stranger : List (List OpRow) → ℕ → List Node → Option ℕ
stranger rows p [] = None
stranger rows p (node ∷ nodes) = if is_in_script rows node then stranger rows (p + 1) nodes else Some (p + 1)

-- the first place whose node is no update of these scripts
abbrev pub stranger_to : {State Op Query Reply : Type 0} → Behaviour State Op Query Reply → List (List (Call State Op Query Reply))
    → List Node → Option ℕ
stranger_to b scripts nodes = stranger (map (update_rows b) scripts) 0 nodes

abbrev pub stranger_line : ℕ → List (List ℕ)
stranger_line place = codes "place" ∷ decimal place ∷ codes "not" ∷ codes "in" ∷ codes "the" ∷ codes "script" ∷ []

-- ---- the work
-- a report, which is these lines and nothing else
abbrev pub lines_task : List (List (List ℕ)) → Task
lines_task lines = report_task (flat_map line_text lines) (λ text. text ≡ flat_map line_text lines)

-- what is said of recovered nodes, by the first place whose node is no update of these scripts
abbrev pub nodes_task : {State Op Query Reply : Type 0} → Behaviour State Op Query Reply → Wording State Op Query Reply
    → State → List (List (Call State Op Query Reply)) → List Node → Option ℕ → Task
nodes_task b w s scripts nodes None = lines_task (detect_lines w (table_of b s nodes) scripts (length nodes))
nodes_task b w s scripts nodes (Some place) = say_task BadLog (line_text (stranger_line place))

-- what was recovered, and what it is to these scripts
abbrev pub detected_task : (k : ObjectKind) → k.State → List (List (Call k.State k.Op k.Query k.Reply)) → Recovered → Task
detected_task k s scripts r = nodes_task k.means k.wording s scripts r.nodes (stranger_to k.means scripts r.nodes)

-- what the logs of these scripts' threads give, over an object of this kind whose initial state these bytes say
abbrev pub detect_logs_task : (k : ObjectKind) → List ℕ → k.State → (logs : List ℕ)
    → List (List (Call k.State k.Op k.Query k.Reply)) → Task
detect_logs_task k init s logs scripts = after_stage (recovery_stage k init logs (length scripts)) (detected_task k s scripts)

-- the scripts are read first
abbrev pub detect_task : (k : ObjectKind) → (init logs : List ℕ) → List (List ℕ) → k.State → Task
detect_task k init logs names s = after_stage (scripts_stage k.wording names) (detect_logs_task k init s logs)
