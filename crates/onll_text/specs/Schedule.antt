-- The grammar of schedules.

use Rattle.std.specs.Prelude.{ℕ, List, [], ◌∷◌, ◌++◌, ◌+◌, ◌≤◌, ◌<◌, Result, Ok, Err, if◌then◌else◌, codes, nat_lt, nat_le, ◌&&◌}
use Rattle.std.specs.List.{All, sum_by}
use Rattle.std.specs.Str.{bytes_eq}
use Rattle.onll_words.specs.Texts.{Numbered, words_of, meaningful_lines}
use Rattle.onll_model.specs.declared.turn.Turn.{Turn}
use Rattle.onll_text.specs.declared.schedule.Schedule.{Schedule}
use Rattle.onll_text.specs.declared.schedule.ScheduleLine.{ScheduleLine}
use Rattle.onll_text.specs.declared.schedule.ScheduleLine.TheVariants.{Steps, Crash}
use Rattle.onll_text.specs.declared.reason.Reason.{Reason}
use Rattle.onll_text.specs.declared.reason.Reason.TheVariants.{TooLong, Missing, WrongCount, OutOfRange, TooMany, AfterCrash}
use Rattle.onll_text.specs.Refusal.{Refusal, refused, ◌>>=◌, only_if, at_line}
use Rattle.onll_text.specs.Words.{word_as_number, one_number}
use Rattle.onll_text.specs.Script.{is_too_long}

-- a turn has at most so many steps, and so have all turns of a schedule together
abbrev pub most_steps : ℕ
most_steps = 8000000

-- the turn that words say: one step, where no count is given
abbrev pub turn_of : List (List ℕ) → Result Turn Reason
turn_of (t ∷ []) = word_as_number t >>= λ thread. Ok (record { thread = thread; count = 1 })
turn_of (t ∷ c ∷ []) = word_as_number t >>= λ thread. word_as_number c >>= λ count. Ok (record { thread = thread; count = count })
turn_of _ = Err WrongCount

-- the turn of a line's words, among so many threads and after so many steps
abbrev pub turn_after : ℕ → ℕ → List (List ℕ) → Result Turn Reason
turn_after threads steps words =
    turn_of words
    >>= (λ turn. only_if (nat_lt turn.thread threads && nat_le 1 turn.count && nat_le turn.count most_steps) OutOfRange turn)
    >>= (λ turn. only_if (nat_le (steps + turn.count) most_steps) TooMany turn)

-- what a line's words say, among so many threads and after so many steps
abbrev pub line_after : ℕ → ℕ → List (List ℕ) → Result ScheduleLine Reason
line_after threads steps [] = Err WrongCount
line_after threads steps (first ∷ args) =
    if bytes_eq first (codes "crash") then (one_number args >>= λ keep. Ok (Crash keep))
    else (turn_after threads steps (first ∷ args) >>= λ turn. Ok (Steps turn))

-- what a line said fits behind so many steps
abbrev pub FitsBehind : ℕ → ScheduleLine → Type 0
FitsBehind steps (Steps turn) = steps + turn.count ≤ most_steps
FitsBehind steps (Crash keep) = Unit {0}

-- the crash, behind which no line stands
abbrev pub ended_by : ℕ → List Numbered → Result Schedule Refusal
ended_by keep [] = Ok (record { turns = []; keep = keep })
ended_by keep (l ∷ lines) = Err (refused l.number AfterCrash)

-- turns before a schedule
abbrev pub after_turns : List Turn → Result Schedule Refusal → Result Schedule Refusal
after_turns front (Err refusal) = Err refusal
after_turns front (Ok s) = Ok (record { turns = front ++ s.turns; keep = s.keep })

-- the schedule from a line on, whose further lines make this schedule after a turn
abbrev pub from_line : ScheduleLine → List Numbered → (ℕ → Result Schedule Refusal) → Result Schedule Refusal
from_line (Crash keep) lines after = ended_by keep lines
from_line (Steps turn) lines after = after_turns (turn ∷ []) (after turn.count)

-- the schedule of meaningful lines, among so many threads and after so many steps
abbrev pub schedule_in : ℕ → ℕ → List Numbered → Result Schedule Refusal
schedule_in threads steps [] = Err (refused 0 Missing)
schedule_in threads steps (l ∷ lines) =
    at_line l.number (line_after threads steps (words_of l.line)) >>= λ said.
    from_line said lines (λ count. schedule_in threads (steps + count) lines)

-- the schedule of a text for so many threads, or why the text is none
abbrev pub schedule_of : ℕ → List ℕ → Result Schedule Refusal
schedule_of threads text = if is_too_long text then Err (refused 0 TooLong) else schedule_in threads 0 (meaningful_lines text)

-- the steps of turns together
abbrev pub steps_in : List Turn → ℕ
steps_in turns = sum_by (λ turn. turn.count) turns

-- a turn of one of so many threads
pub record IsTurn (threads : ℕ) (turn : Turn) : Type 0 where
  pub thread : turn.thread < threads
  pub some : 1 ≤ turn.count
  pub few : turn.count ≤ most_steps

-- what every schedule of a text can rely on: its turns are turns of these threads, and their steps are few
pub record IsPlayable (threads : ℕ) (s : Schedule) : Type 0 where
  pub turns : All (IsTurn threads) s.turns
  pub steps : steps_in s.turns ≤ most_steps
