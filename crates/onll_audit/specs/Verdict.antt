-- The verdict on a report of the form: its least wrong line, and in it the first reason.

use Rattle.std.specs.Prelude.{ℕ, Bool, true, false, List, [], ◌∷◌, ◌++◌, ◌≡◌, ◌+◌, ◌-◌, Option, Some, None, Result, Ok, Err, length, take, map, ◌==◌, ◌&&◌, if◌then◌else◌, nat_lt, nat_le, max, slice_get, codes, decimal, count_by}
use Rattle.std.specs.List.{flat_map}
use Rattle.std.specs.Option.{option_or, option_map}
use Rattle.std.specs.Str.{bytes_eq}
use Rattle.onll_words.specs.declared.line.OpRow.{OpRow}
use Rattle.onll_words.specs.Texts.{joined, line_text}
use Rattle.onll_model.specs.declared.node.Node.{Node}
use Rattle.onll_model.specs.declared.call.Call.{Call}
use Rattle.onll_model.specs.declared.call.Call.TheVariants.{Update, Ask}
use Rattle.onll_model.specs.declared.call.CallEnd.{CallEnd}
use Rattle.onll_model.specs.declared.call.CallEnd.TheVariants as ends
use Rattle.onll_model.specs.Object.{Behaviour}
use Rattle.onll_model.specs.Trace.{is_of_thread, state_after}
use Rattle.onll_model.specs.Legal.{placed_rows}
use Rattle.onll_text.specs.Refusal.{◌>>=◌}
use Rattle.onll_text.specs.Wording.{Wording}
use Rattle.onll_text.specs.Lines.{call_words, at_words}
use Rattle.onll_audit.specs.declared.said.Said.{Said}
use Rattle.onll_audit.specs.declared.said.Said.TheVariants as said
use Rattle.onll_audit.specs.declared.past.Past.{Past}
use Rattle.onll_audit.specs.declared.verdict.Why.{Why}
use Rattle.onll_audit.specs.declared.verdict.Why.TheVariants as whys
use Rattle.onll_audit.specs.declared.verdict.Verdict.{Verdict}
use Rattle.onll_audit.specs.declared.verdict.Verdict.TheVariants.{Legal, Wrong}
use Rattle.onll_audit.specs.Fields.{◌>?◌, after_text}
use Rattle.onll_audit.specs.Form.{said_of, ReportForm, report_form}

-- ---- what is known of a thread's earlier calls
-- `Past` has how many calls there were, how many of them are updates with a place, the highest place at which one was answered, the
-- highest place of a read, and the place of the update whose fence failed.
abbrev pub no_past : Past
no_past = record { calls = 0; placed = 0; answered = 0; read = None; failed = None }

-- the higher of a place and this one
abbrev pub higher : Option ℕ → ℕ → Option ℕ
higher None place = Some place
higher (Some p) place = Some (max p place)

-- the same with one update more
abbrev pub past_update : Past → Said → Past
past_update past (said.Answered place) =
    record { calls = past.calls + 1; placed = past.placed + 1; answered = max past.answered place; read = past.read; failed = past.failed }
past_update past (said.FenceFailed place) =
    record { calls = past.calls + 1; placed = past.placed + 1; answered = past.answered; read = past.read; failed = Some place }
past_update past (said.Broken place) =
    record { calls = past.calls + 1; placed = past.placed; answered = past.answered; read = past.read; failed = past.failed }

-- the same with one read more
abbrev pub past_read : Past → Said → Past
past_read past (said.Answered place) =
    record {
      calls = past.calls + 1;
      placed = past.placed;
      answered = max past.answered place;
      read = higher past.read place;
      failed = past.failed;
    }
past_read past (said.FenceFailed place) =
    record { calls = past.calls + 1; placed = past.placed; answered = past.answered; read = past.read; failed = past.failed }
past_read past (said.Broken place) =
    record { calls = past.calls + 1; placed = past.placed; answered = past.answered; read = past.read; failed = past.failed }

-- the same with one call more
abbrev pub next_past : {State Op Query Reply : Type 0} → Past → Call State Op Query Reply → Said → Past
next_past past (Update op) e = past_update past e
next_past past (Ask query) e = past_read past e

-- ---- one line of a call
-- the places of a thread's nodes
abbrev pub place_of : OpRow × ℕ → ℕ
place_of r = r.1

abbrev pub thread_places : ℕ → List Node → List ℕ
thread_places t nodes = map place_of (placed_rows t 0 nodes)

-- no earlier read reaches the place
abbrev pub is_above : Option ℕ → ℕ → Bool
is_above None place = true
is_above (Some p) place = nat_lt p place

abbrev pub is_that_place : ℕ → Option ℕ → Bool
is_that_place place None = false
is_that_place place (Some p) = p == place

-- what can become of an update, after a failed fence at this place, if there was one
abbrev pub update_outcome : Option ℕ → Said → Bool
update_outcome None (said.Answered place) = true
update_outcome None (said.FenceFailed place) = true
update_outcome None (said.Broken place) = false
update_outcome (Some failed) (said.Answered place) = false
update_outcome (Some failed) (said.FenceFailed place) = false
update_outcome (Some failed) (said.Broken place) = place == failed

abbrev pub read_outcome : Said → Bool
read_outcome (said.Answered place) = true
read_outcome (said.FenceFailed place) = false
read_outcome (said.Broken place) = false

-- wrong for this reason where the test fails
abbrev pub right_if : Bool → Why → Result Said Why → Result Said Why
right_if test why rest = if test then rest else Err why

-- where a line is wrong; else it says this, and the lines after it are judged
abbrev pub on_judged : ℕ → Result Said Why → (Said → Option (ℕ × Why)) → Option (ℕ × Why)
on_judged n (Err why) rest = Some (n, why)
on_judged n (Ok e) rest = rest e

-- what a line of a call begins with, up to its arrow
abbrev pub call_front : {State Op Query Reply : Type 0} → Wording State Op Query Reply → ℕ → ℕ → Call State Op Query Reply → List ℕ
call_front w t number c = joined (codes "call" ∷ decimal t ∷ decimal number ∷ (call_words w c ++ codes "->" ∷ []))

abbrev pub with_text : List ℕ → Option Said → Option (List ℕ × Said)
with_text text None = None
with_text text (Some e) = Some (text, e)

-- the text after a line's front and one space, and the outcome that it says
abbrev pub end_after : (front line : List ℕ) → Option (List ℕ × Said)
end_after front line = after_text front line >? λ rest. after_text (codes " ") rest >? λ text. with_text text (said_of text)

-- the same of the line of this call
abbrev pub end_of_call : {State Op Query Reply : Type 0} → Wording State Op Query Reply → ℕ → ℕ → Call State Op Query Reply → List ℕ
    → Option (List ℕ × Said)
end_of_call w t number c line = end_after (call_front w t number c) line

-- the node after so many has this row
abbrev pub IsNextRow : List Node → ℕ → OpRow → Type 0
IsNextRow nodes at row = (n : Node) × (slice_get nodes at ≡ Some n) × (n.row ≡ row)

-- the outcome is one that the call can have there
abbrev pub outcome_right : {State Op Query Reply : Type 0} → Past → Call State Op Query Reply → Said → Bool
outcome_right past (Update op) e = update_outcome past.failed e
outcome_right past (Ask query) e = read_outcome e

-- the place of an update is that of its thread's node of this count, of these, and no earlier read reaches it
abbrev pub update_place : List ℕ → Past → ℕ → Bool
update_place places past place = is_that_place place (slice_get places past.placed) && is_above past.read place

-- the place is one that the call can have there, by the places of its thread's nodes and the count of all nodes
abbrev pub place_right : {State Op Query Reply : Type 0} → List ℕ → ℕ → Past → Call State Op Query Reply → Said → Bool
place_right places count past (Update op) (said.Answered place) = update_place places past place
place_right places count past (Update op) (said.FenceFailed place) = update_place places past place
place_right places count past (Update op) (said.Broken place) = true
place_right places count past (Ask query) (said.Answered place) = nat_le place count && nat_le past.answered place
place_right places count past (Ask query) (said.FenceFailed place) = true
place_right places count past (Ask query) (said.Broken place) = true

module _ {State Op Query Reply : Type 0} (b : Behaviour State Op Query Reply) (w : Wording State Op Query Reply) (s : State)
    (nodes : List Node) where
  -- after how many nodes a call is answered at a place
  abbrev pub answered_after : Call State Op Query Reply → ℕ → ℕ
  answered_after (Update op) place = place - 1
  answered_after (Ask query) place = place

  -- what the object says to a call in a state
  abbrev pub reply_in : Call State Op Query Reply → State → Reply
  reply_in (Update op) state = b.reply state op
  reply_in (Ask query) state = b.answer state query

  -- what it says to a call at a place
  abbrev pub reply_at : Call State Op Query Reply → ℕ → Reply
  reply_at c place = reply_in c (state_after b s (take (answered_after c place) nodes))

  -- the outcome with the object's reply
  abbrev pub end_at : Call State Op Query Reply → Said → CallEnd State Op Query Reply
  end_at c (said.Answered place) = ends.Answered (reply_at c place) place
  end_at c (said.FenceFailed place) = ends.FenceFailed place
  end_at c (said.Broken place) = ends.Broken place

  -- the text after the arrow is that of the object's reply, where the call is answered
  abbrev pub reply_right : Call State Op Query Reply → Said → List ℕ → Bool
  reply_right c (said.Answered place) text = bytes_eq (joined (w.reply_words (reply_at c place) ++ at_words place)) text
  reply_right c (said.FenceFailed place) text = true
  reply_right c (said.Broken place) text = true

  -- what a line says of its call, by the text after its arrow, or the first reason why it is wrong
  abbrev pub judge_end : List ℕ → Past → Call State Op Query Reply → Option (List ℕ × Said) → Result Said Why
  judge_end places past c None = Err whys.Script
  judge_end places past c (Some r) =
      right_if (outcome_right past c r.1) whys.Outcome
      (right_if (place_right places (length nodes) past c r.1) whys.Place
      (right_if (reply_right c r.1 r.0) whys.Reply (Ok r.1)))

  abbrev pub judge : ℕ → List ℕ → Past → Call State Op Query Reply → List ℕ → Result Said Why
  judge t places past c line = judge_end places past c (end_of_call w t (past.calls + 1) c line)

  -- the least wrong line of a thread, after this past, whose first line is line n of the report
  abbrev pub thread_wrong : ℕ → List ℕ → ℕ → Past → List (Call State Op Query Reply) → List (List ℕ) → Option (ℕ × Why)
  thread_wrong t places n past script [] = None
  thread_wrong t places n past [] (l ∷ lines) = Some (n, whys.Script)
  thread_wrong t places n past (c ∷ script) (l ∷ lines) =
      on_judged n (judge t places past c l) (λ e. thread_wrong t places (n + 1) (next_past past c e) script lines)

-- the least wrong line of calls, from thread t on, whose first line is line n
abbrev pub calls_wrong : {State Op Query Reply : Type 0} → Behaviour State Op Query Reply → Wording State Op Query Reply → State
    → List Node → ℕ → ℕ
    → List (List (Call State Op Query Reply)) → List (List (List ℕ)) → Option (ℕ × Why)
calls_wrong b w s nodes t n [] groups = None
calls_wrong b w s nodes t n (script ∷ scripts) [] = None
calls_wrong b w s nodes t n (script ∷ scripts) (lines ∷ groups) =
    option_or (thread_wrong b w s nodes t (thread_places t nodes) n no_past script lines)
    (calls_wrong b w s nodes (t + 1) (n + length lines) scripts groups)

-- ---- the nodes
-- the row, where the outcome is one with a place
abbrev pub placed_row : OpRow → Option Said → List OpRow
placed_row row None = []
placed_row row (Some (said.Answered place)) = row ∷ []
placed_row row (Some (said.FenceFailed place)) = row ∷ []
placed_row row (Some (said.Broken place)) = []

-- that of an update
abbrev pub row_said : {State Op Query Reply : Type 0} → Behaviour State Op Query Reply → Call State Op Query Reply → Option Said
    → List OpRow
row_said b (Update op) e = placed_row (b.row_of op) e
row_said b (Ask query) e = []

-- the rows of a thread's updates with a place, by its lines, the first of them of call number k + 1
abbrev pub rows_said : {State Op Query Reply : Type 0} → Behaviour State Op Query Reply → Wording State Op Query Reply → ℕ → ℕ
    → List (Call State Op Query Reply) → List (List ℕ) → List OpRow
rows_said b w t k script [] = []
rows_said b w t k [] (l ∷ lines) = []
rows_said b w t k (c ∷ script) (l ∷ lines) =
    row_said b c (option_map (λ (r : List ℕ × Said). r.1) (end_of_call w t (k + 1) c l)) ++ rows_said b w t (k + 1) script lines

-- those of each thread, from thread t on
abbrev pub all_rows : {State Op Query Reply : Type 0} → Behaviour State Op Query Reply → Wording State Op Query Reply → ℕ
    → List (List (Call State Op Query Reply)) → List (List (List ℕ)) → List (List OpRow)
all_rows b w t [] groups = []
all_rows b w t (script ∷ scripts) [] = []
all_rows b w t (script ∷ scripts) (lines ∷ groups) = rows_said b w t 0 script lines ∷ all_rows b w (t + 1) scripts groups

abbrev pub same_row : OpRow → Option OpRow → Bool
same_row row None = false
same_row row (Some r) = bytes_eq r.w row.w

-- the row at this count of a thread's rows
abbrev pub nth_row : Option (List OpRow) → ℕ → Option OpRow
nth_row None count = None
nth_row (Some rows) count = slice_get rows count

-- the node is the one after so many of its thread, and the thread's update of this count has a place and is this operation
abbrev pub node_after : List (List OpRow) → ℕ → Node → Bool
node_after rows count n = (n.number == count + 1) && same_row n.row (nth_row (slice_get rows n.thread) count)

abbrev pub node_right : List (List OpRow) → List Node → Node → Bool
node_right rows below n = node_after rows (count_by (is_of_thread n.thread) below) n

-- the first wrong line of nodes, the first of which is line n
abbrev pub nodes_wrong : List (List OpRow) → ℕ → List Node → List Node → Option (ℕ × Why)
nodes_wrong rows n below [] = None
nodes_wrong rows n below (x ∷ nodes) =
    if node_right rows below x then nodes_wrong rows (n + 1) (below ++ x ∷ []) nodes else Some (n, whys.Node)

-- ---- all of it
abbrev pub total_lines : List (List (List ℕ)) → ℕ
total_lines [] = 0
total_lines (lines ∷ groups) = length lines + total_lines groups

abbrev pub state_wrong : {State Op Query Reply : Type 0} → Wording State Op Query Reply → State → ℕ → List ℕ → Option (ℕ × Why)
state_wrong w s n text = if bytes_eq text (flat_map line_text (w.state_lines s)) then None else Some (n, whys.State)

-- the least wrong line of a report of the form, and the first reason why it is wrong
abbrev pub wrong_in : {State Op Query Reply : Type 0} → Behaviour State Op Query Reply → Wording State Op Query Reply → State
    → List (List (Call State Op Query Reply)) → ReportForm → Option (ℕ × Why)
wrong_in b w s scripts f =
    option_or (calls_wrong b w s f.nodes 0 1 scripts f.calls)
    (option_or (nodes_wrong (all_rows b w 0 scripts f.calls) (total_lines f.calls + 2) [] f.nodes)
    (state_wrong w (state_after b s f.nodes) f.state_line f.state))

abbrev pub verdict_by : Option (ℕ × Why) → Verdict
verdict_by None = Legal
verdict_by (Some x) = Wrong x.0 x.1

-- the verdict on a report, or its first line that is none of the form
abbrev pub verdict_of : {State Op Query Reply : Type 0} → Behaviour State Op Query Reply → Wording State Op Query Reply → State
    → List (List (Call State Op Query Reply)) → List ℕ → Result Verdict ℕ
verdict_of b w s scripts text = report_form b w (length scripts) text >>= λ f. Ok (verdict_by (wrong_in b w s scripts f))
