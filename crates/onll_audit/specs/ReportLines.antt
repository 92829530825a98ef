-- The lines of a report of the form: what a text of the form is, word by word, and that just these texts are read.

use Rattle.std.specs.Prelude.{ℕ, ◌≡◌, ◌+◌, ◌<◌, ◌≤◌, ◌^◌, ◌↔◌, Bool, List, [], ◌∷◌, ◌++◌, Ok, codes, decimal, length, map}
use Rattle.std.specs.List.{All, AllByRecursion, flat_map}
use Rattle.onll_words.specs.Texts.{joined, line_text, AreWords}
use Rattle.onll_model.specs.Limits.{most_threads}
use Rattle.onll_model.specs.declared.call.Call.{Call}
use Rattle.onll_model.specs.Object.{Behaviour}
use Rattle.onll_text.specs.Wording.{Wording}
use Rattle.onll_text.specs.Lines.{LogData, at_words, call_words, trace_line, flagged_lines, counted_lines, recovered_line}
use Rattle.onll_text.specs.Reports.{CallReads, NodeReads, LogReads}
use Rattle.onll_audit.specs.Form.{ReportForm, report_form}
use Rattle.onll_audit.specs.Printed.{FailedFence, failed_lines, FaultsRise}

-- ---- lines of calls
-- What the line of a call says: its number, the call, and what became of it, as words and a place. The form takes any words there:
-- those of a reply, and also `fence failed` and `broken`.
pub record SpokenCall (State Op Query Reply : Type 0) : Type 0 where
  pub number : ℕ
  pub call : Call State Op Query Reply
  pub outcome : List (List ℕ)
  pub place : ℕ

-- its numbers are of 64 bits, the call reads back where it is printed, and what became of it has a word
pub record SpokenReads {State Op Query Reply : Type 0} (w : Wording State Op Query Reply) (spoken : SpokenCall State Op Query Reply)
    : Type 0 where
  pub number : spoken.number < 2 ^ 64
  pub call : CallReads w spoken.call
  pub words : AreWords spoken.outcome
  pub some : 0 < length spoken.outcome
  pub place : spoken.place < 2 ^ 64

-- the line: `call T K CALL -> OUTCOME at P`
abbrev pub spoken_line : {State Op Query Reply : Type 0} → Wording State Op Query Reply → ℕ → SpokenCall State Op Query Reply
    → List (List ℕ)
spoken_line w t spoken = codes "call" ∷ decimal t ∷ decimal spoken.number
    ∷ (call_words w spoken.call ++ codes "->" ∷ (spoken.outcome ++ at_words spoken.place))

-- the lines of each thread, from thread t on
abbrev pub spoken_lines : {State Op Query Reply : Type 0} → Wording State Op Query Reply → ℕ → List (List (SpokenCall State Op Query Reply))
    → List (List (List ℕ))
spoken_lines w t [] = []
spoken_lines w t (own ∷ others) = map (spoken_line w t) own ++ spoken_lines w (t + 1) others

-- their texts, thread by thread
abbrev pub spoken_texts : {State Op Query Reply : Type 0} → Wording State Op Query Reply → ℕ → List (List (SpokenCall State Op Query Reply))
    → List (List (List ℕ))
spoken_texts w t [] = []
spoken_texts w t (own ∷ others) = map joined (map (spoken_line w t) own) ∷ spoken_texts w (t + 1) others

-- ---- all lines
-- The text is these lines, up to the line `state`, and any bytes after them: the lines of the calls of each thread, how many nodes
-- there are and a line with a flag for each, a line for each thread's log, how many nodes are recovered, and the fences that failed,
-- whose threads rise. The form says what they do.
pub record HasReportLines {State Op Query Reply : Type 0} (b : Behaviour State Op Query Reply) (w : Wording State Op Query Reply)
    (threads : ℕ) (text : List ℕ) (form : ReportForm) : Type 0 where
  pub spoken : List (List (SpokenCall State Op Query Reply))
  pub flags : List Bool
  pub logs : List LogData
  pub recovered : ℕ
  pub faults : List FailedFence
  pub lines : List (List (List ℕ))
  pub lines_are : lines ≡ spoken_lines w 0 spoken
      ++ (trace_line (length form.nodes)
      ∷ (flagged_lines b w 0 form.nodes flags
      ++ (counted_lines 0 logs ++ (recovered_line recovered ∷ (failed_lines faults ++ (codes "state" ∷ []) ∷ [])))))
  pub text_is : text ≡ flat_map line_text lines ++ form.state
  pub state_line : form.state_line ≡ length lines
  pub calls : form.calls ≡ spoken_texts w 0 spoken
  pub each_thread : length spoken ≡ threads
  pub spoken_read : AllByRecursion (λ own. AllByRecursion (SpokenReads w) own) spoken
  pub nodes : All (NodeReads b w) form.nodes
  pub few : length form.nodes < 2 ^ 64
  pub each_flag : length flags ≡ length form.nodes
  pub each_log : length logs ≡ threads
  pub logs_read : All LogReads logs
  pub recovered_fits : recovered < 2 ^ 64
  pub rise : FaultsRise 0 threads faults

-- a text is read as a report that says this just where its lines are those
abbrev pub ReportLinesLaw : {State Op Query Reply : Type 0} → Behaviour State Op Query Reply → Wording State Op Query Reply → Type 0
ReportLinesLaw b w = (threads : ℕ) (text : List ℕ) (form : ReportForm) → threads ≤ most_threads
    → (report_form b w threads text ≡ Ok form) ↔ HasReportLines b w threads text form
