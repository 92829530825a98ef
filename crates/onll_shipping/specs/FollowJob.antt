-- What `follow INIT T STREAM PIECE` does: it says how far a stream of the logs of one run is followed, and the state there. Into
-- which pieces the stream was cut shows nowhere.

use Rattle.std.specs.Prelude.{ℕ, ◌<◌, ◌^◌, List, [], ◌∷◌, Option, Some, None, Result, Ok, codes, decimal, length, take}
use Rattle.std.specs.List.{flat_map}
use Rattle.onll_words.specs.Texts.{line_text}
use Rattle.onll_model.specs.Object.{Behaviour}
use Rattle.onll_model.specs.Trace.{state_after}
use Rattle.onll_log.specs.Head.{heads_from}
use Rattle.onll_standby.specs.declared.fault.FeedFault.{FeedFault}
use Rattle.onll_standby.specs.declared.fault.FeedFault.TheVariants.{NotThisRun, Refused, Disorder, Clash, Stray, NotOp, NoMemory}
use Rattle.onll_standby.specs.Stream.{Course, Shown, course}
use Rattle.onll_text.specs.Kinds.{ObjectKind}
use Rattle.onll_text.specs.Lines.{state_lines}
use Rattle.onll_text.specs.Refusal.{Refusal}
use Rattle.onll_text.specs.Reports.{StateReads, SaysOnly}
use Rattle.onll_text.specs.Wording.{Wording}
use Rattle.onll_task.specs.declared.ending.Ending.TheVariants.{BadLog}
use Rattle.onll_task.specs.Doing.{Task, Stage, after_stage, text_stage, report_task, say_task}

-- ---- the stream
-- how many bytes of a stream are read at most: as many as the images of sixteen threads have
abbrev pub longest_stream : ℕ
longest_stream = 71304192

-- how many bytes of a stream are fed at once at most
abbrev pub longest_piece : ℕ
longest_piece = 1048576

-- the first bytes of a file, as many as a stream has at most
abbrev pub stream_in : List ℕ → Result (List ℕ) Refusal
stream_in bytes = Ok (take longest_stream bytes)

abbrev pub stream_stage : List ℕ → Stage (List ℕ)
stream_stage name = text_stage name stream_in

-- ---- the refusals
-- the line that says why a stream is followed no further; want of memory, which no stream shows, has none
abbrev pub stream_fault_line : FeedFault → List ℕ
stream_fault_line (NotThisRun log) =
    line_text (codes "stream" ∷ codes "log" ∷ decimal log ∷ codes "not" ∷ codes "of" ∷ codes "this" ∷ codes "run" ∷ [])
stream_fault_line (Refused at) = line_text (codes "stream" ∷ codes "byte" ∷ decimal at ∷ codes "refused" ∷ [])
stream_fault_line (Disorder at) = line_text (codes "stream" ∷ codes "byte" ∷ decimal at ∷ codes "disorder" ∷ [])
stream_fault_line (Clash at place) =
    line_text (codes "stream" ∷ codes "byte" ∷ decimal at ∷ codes "place" ∷ decimal place ∷ codes "differs" ∷ [])
stream_fault_line (Stray place) = line_text (codes "stream" ∷ codes "place" ∷ decimal place ∷ codes "wrong" ∷ codes "number" ∷ [])
stream_fault_line (NotOp place) =
    line_text (codes "stream" ∷ codes "place" ∷ decimal place ∷ codes "not" ∷ codes "an" ∷ codes "operation" ∷ [])
stream_fault_line NoMemory = []

-- ---- the report
-- what it says: how many bytes were taken, how many entries are held, up to which place they are followed, and the state there
pub record FollowData (State : Type 0) : Type 0 where
  pub taken : ℕ
  pub held : ℕ
  pub followed : ℕ
  pub state : State

abbrev pub follow_data_lines : {State Op Query Reply : Type 0} → Wording State Op Query Reply → FollowData State → List (List (List ℕ))
follow_data_lines w said = (codes "taken" ∷ decimal said.taken ∷ []) ∷ (codes "held" ∷ decimal said.held ∷ [])
    ∷ (codes "followed" ∷ decimal said.followed ∷ []) ∷ state_lines w said.state

-- all that is said reads back
pub record FollowReads {State Op Query Reply : Type 0} (w : Wording State Op Query Reply) (said : FollowData State) : Type 0 where
  pub taken : said.taken < 2 ^ 64
  pub held : said.held < 2 ^ 64
  pub followed : said.followed < 2 ^ 64
  pub state : StateReads w said.state

-- what is said of a course of so many bytes
abbrev pub follow_data : {State Op Query Reply : Type 0} → Behaviour State Op Query Reply → State → ℕ → Course → FollowData State
follow_data b s taken c =
    record { taken = taken; held = length c.entries; followed = length c.nodes; state = state_after b s c.nodes }

-- ---- the work
-- what a stream comes to is reported, unless it shows a fault: the report says that, and nothing else
abbrev pub course_task : {State Op Query Reply : Type 0} → Behaviour State Op Query Reply → Wording State Op Query Reply → State → ℕ
    → Course → Option Shown → Task
course_task b w s taken c None = report_task (flat_map line_text (follow_data_lines w (follow_data b s taken c)))
    (λ text. SaysOnly (follow_data_lines w) (FollowReads w) text (follow_data b s taken c))
course_task b w s taken c (Some shown) = say_task BadLog (stream_fault_line shown.fault)

abbrev pub followed_task : {State Op Query Reply : Type 0} → Behaviour State Op Query Reply → Wording State Op Query Reply → State → ℕ
    → Course → Task
followed_task b w s taken c = course_task b w s taken c c.shown

-- the heads of the logs of a run, as their first lines have them, over an object of this kind whose initial state these bytes say
abbrev pub follow_task : (k : ObjectKind) → (init stream : List ℕ) → (threads : ℕ) → k.State → Task
follow_task k init stream threads s = after_stage (stream_stage stream)
    (λ bytes. followed_task k.means k.wording s (length bytes) (course k.means (heads_from threads k.code init 0 threads) bytes))
