-- What `show IMAGE` does: it says what an image of a log holds.

use Rattle.std.specs.Prelude.{ℕ, List, [], ◌∷◌, ◌++◌, ◌+◌, ◌-◌, ◌<◌, ◌≤◌, ◌^◌, Option, Some, None, codes, decimal, length, map}
use Rattle.onll_model.specs.Limits.{greatest_code}
use Rattle.std.specs.List.{All, flat_map}
use Rattle.onll_words.specs.Texts.{line_text}
use Rattle.onll_model.specs.declared.node.Node.{Node}
use Rattle.onll_model.specs.Segment.{Segment}
use Rattle.onll_log.specs.declared.head.LogHead.{LogHead}
use Rattle.onll_log.specs.Grammar.{Content, content_of, used_by}
use Rattle.onll_text.specs.Init.{object_name}
use Rattle.onll_text.specs.Reports.{SaysOnly}
use Rattle.onll_task.specs.declared.ending.Ending.TheVariants.{BadLog}
use Rattle.onll_task.specs.Doing.{Task, Work, after_stage, report_task, say_task, lines_stage}

-- `log thread T threads N object NAME`
abbrev pub head_line : (thread threads object : ℕ) → List (List ℕ)
head_line thread threads object =
    codes "log" ∷ codes "thread" ∷ decimal thread ∷ codes "threads" ∷ decimal threads ∷ codes "object" ∷ object_name object ∷ []

abbrev pub head_words : LogHead → List (List ℕ)
head_words head = head_line head.thread head.threads head.object

-- `entry S place P count C`
abbrev pub entry_words : ℕ → Segment → List (List ℕ)
entry_words number s = codes "entry" ∷ decimal number ∷ codes "place" ∷ decimal s.place ∷ codes "count" ∷ decimal (length s.nodes) ∷ []

-- `row P T N CODE A1 A2 A3 A4 A5 A6`
abbrev pub row_line : ℕ → Node → List (List ℕ)
row_line place n = codes "row" ∷ decimal place ∷ decimal n.thread ∷ decimal n.number ∷ map decimal n.row.w

-- the line of each node, the first of them at place p + 1
abbrev pub row_lines : ℕ → List Node → List (List (List ℕ))
row_lines p [] = []
row_lines p (n ∷ nodes) = row_line (p + 1) n ∷ row_lines (p + 1) nodes

abbrev pub entry_lines : ℕ → Segment → List (List (List ℕ))
entry_lines number s = entry_words number s ∷ row_lines (s.place - length s.nodes) s.nodes

-- the lines of each entry, the first of them being number k + 1
abbrev pub entries_lines : ℕ → List Segment → List (List (List ℕ))
entries_lines k [] = []
entries_lines k (s ∷ ss) = entry_lines (k + 1) s ++ entries_lines (k + 1) ss

-- `entries E lines L`
abbrev pub count_words : ℕ → ℕ → List (List ℕ)
count_words entries lines = codes "entries" ∷ decimal entries ∷ codes "lines" ∷ decimal lines ∷ []

abbrev pub content_lines : Option LogHead → List Segment → ℕ → List (List (List ℕ))
content_lines None ss used = (codes "empty" ∷ []) ∷ []
content_lines (Some head) ss used = head_words head ∷ (entries_lines 0 ss ++ count_words (length ss) used ∷ [])

abbrev pub show_report : Content → List ℕ
show_report c = flat_map line_text (content_lines c.head c.entries (used_by c))

abbrev pub not_a_log : List ℕ
not_a_log = codes "not a log\n"

-- ---- what the report says
-- what is said of a log with a head: the head, the entries with their places, counts and rows, and the lines that they use
pub record ShownLog : Type 0 where
  pub thread : ℕ
  pub threads : ℕ
  pub object : ℕ
  pub entries : List Segment
  pub lines : ℕ

-- the lines of what an image holds, which is nothing where it has no head
abbrev pub shown_lines : Option ShownLog → List (List (List ℕ))
shown_lines None = (codes "empty" ∷ []) ∷ []
shown_lines (Some log) =
    head_line log.thread log.threads log.object ∷ (entries_lines 0 log.entries ++ count_words (length log.entries) log.lines ∷ [])

-- the numbers of a node, and the words of its row, are of 64 bits
pub record RowReads (node : Node) : Type 0 where
  pub thread : node.thread < 2 ^ 64
  pub number : node.number < 2 ^ 64
  pub words : All (λ n. n < 2 ^ 64) node.row.w

pub record EntryReads (s : Segment) : Type 0 where
  pub place : s.place < 2 ^ 64
  pub nodes : All RowReads s.nodes

-- a log with a head is of one of the four objects, and its numbers are of 64 bits
pub record LogShownReads (log : ShownLog) : Type 0 where
  pub thread : log.thread < 2 ^ 64
  pub threads : log.threads < 2 ^ 64
  pub object : (1 ≤ log.object) × (log.object ≤ greatest_code)
  pub entries : All EntryReads log.entries
  pub lines : log.lines < 2 ^ 64

abbrev pub ShowReads : Option ShownLog → Type 0
ShowReads None = Unit {0}
ShowReads (Some log) = LogShownReads log

abbrev pub shown_with : Option LogHead → List Segment → ℕ → Option ShownLog
shown_with None entries lines = None
shown_with (Some head) entries lines =
    Some (record { thread = head.thread; threads = head.threads; object = head.object; entries = entries; lines = lines })

-- what the report of an image says
abbrev pub show_data : Content → Option ShownLog
show_data c = shown_with c.head c.entries (used_by c)

-- ---- the work
-- what an image holds is reported: the report says that, and nothing else
abbrev pub shown_task : Option Content → Task
shown_task None = say_task BadLog not_a_log
shown_task (Some c) = report_task (show_report c) (λ text. SaysOnly shown_lines ShowReads text (show_data c))

abbrev pub show_work : (image : List ℕ) → Work
show_work image = record { task = after_stage (lines_stage image) (λ lines. shown_task (content_of lines)); writes = [] }

-- the entry's nodes stand at places from 1 on
abbrev pub IsPlacedEntry : Segment → Type 0
IsPlacedEntry s = length s.nodes ≤ s.place
