-- What a stream of logs means: the header lines of all logs, and then entries, each as its lines in its log. Lines are lists of
-- eight words, and a stream is read by its lines alone.
use Rattle.std.specs.Prelude.{ℕ, zero, suc, ◌+◌, ◌*◌, ◌≡◌, ◌≤◌, ◌==◌, ◌&&◌, if◌then◌else◌, Bool, false, List, [], ◌∷◌, ◌++◌, length, nat_le, Option, Some, None}
use Rattle.std.specs.List.{slice_get}
use Rattle.onll_model.specs.declared.node.Node.{Node}
use Rattle.onll_model.specs.Object.{Behaviour}
use Rattle.onll_model.specs.Limits.{most_threads}
use Rattle.onll_log.specs.declared.head.LogHead.{LogHead}
use Rattle.onll_log.specs.Head.{word, head_line}
use Rattle.onll_log.specs.Encoding.{entry_magic}
use Rattle.onll_log.specs.Grammar.{same_words, is_entry, segment_of}
use Rattle.onll_log.specs.ImageFile.{whole_lines}
use Rattle.onll_standby.specs.declared.fault.FeedFault.{FeedFault}
use Rattle.onll_standby.specs.declared.fault.FeedFault.TheVariants.{NotThisRun, Refused}
use Rattle.onll_standby.specs.Held.{HeldEntry, log_held, greatest_place, entry_fault, nodes_followed, node_fault}

-- ---- the heads of the logs
abbrev pub NumberedHeads : ℕ → ℕ → List LogHead → Type 0
NumberedHeads t threads [] = Unit {0}
NumberedHeads t threads (h ∷ hs) = (h.thread ≡ t) × (h.threads ≡ threads) × (h.format ≡ 2) × NumberedHeads (t + 1) threads hs

-- heads of format 2 for the threads 0, 1 and so on
pub record AreStreamHeads (heads : List LogHead) : Type 0 where
  pub some_heads : 1 ≤ length heads
  pub few_heads : length heads ≤ most_threads
  pub numbered : NumberedHeads 0 (length heads) heads

-- the first of these header lines, which are numbered from i, that is not the expected one
abbrev pub foreign_line : ℕ → List LogHead → List (List ℕ) → Option ℕ
foreign_line i [] ls = None
foreign_line i (h ∷ hs) [] = None
foreign_line i (h ∷ hs) (l ∷ ls) = if same_words l (head_line h) then foreign_line (suc i) hs ls else Some i

-- ---- what a stream comes to
-- the fault that a stream shows, and how many lines end with the line or entry that shows it
pub record Shown : Type 0 where
  pub fault : FeedFault
  pub lines : ℕ

-- The accepted entries, the nodes that are followed, the fault if one is shown, and the lines after the last entry, which are no
-- whole entry yet.
pub record Course : Type 0 where
  pub entries : List HeldEntry
  pub nodes : List Node
  pub shown : Option Shown
  pub rest : List (List ℕ)

-- ---- entries
-- whether a header line can begin the next entry of the log of this head, after `before` others
abbrev pub is_header : LogHead → ℕ → List ℕ → Bool
is_header head before line =
    (word line 0 == entry_magic)
    && ((word line 2 == before + 1)
    && (nat_le 1 (word line 4) && (nat_le (word line 4) head.threads
    && (nat_le (word line 4) (word line 3) && nat_le (word line 3) (greatest_place head.threads)))))

abbrev pub opens : Option LogHead → ℕ → List ℕ → Bool
opens None before line = false
opens (Some head) before line = is_header head before line

-- and whether the whole entry is one of that log
abbrev pub is_whole : Option LogHead → ℕ → List ℕ → List (List ℕ) → Bool
is_whole None before line rest = false
is_whole (Some head) before line rest = is_entry head before line rest

-- the log that a header line names, how many entries are held of it, and the entry that the line begins
abbrev pub head_named : List LogHead → List ℕ → Option LogHead
head_named heads line = slice_get heads (word line 1)

abbrev pub before_it : List HeldEntry → List ℕ → ℕ
before_it es line = length (log_held (word line 1) es)

abbrev pub entry_of : List ℕ → List (List ℕ) → HeldEntry
entry_of line rest = record { thread = word line 1; segment = segment_of line rest }

-- the byte where a line begins
abbrev pub byte_at : ℕ → ℕ
byte_at line = 64 * line

module _ {State Op Query Reply : Type 0} (b : Behaviour State Op Query Reply) (heads : List LogHead) where
  -- these entries, and lines that are no whole entry yet
  abbrev pub waits : List HeldEntry → List (List ℕ) → Course
  waits es rest = record { entries = es; nodes = nodes_followed b (length heads) es; shown = None; rest = rest }

  -- these entries, and the fault that is shown by an entry that ends with this line
  abbrev pub shows : List HeldEntry → List Node → FeedFault → ℕ → Course
  shows es nodes fault lines = record { entries = es; nodes = nodes; shown = Some (record { fault = fault; lines = lines }); rest = [] }

  -- an entry that is whole, by its fault against the earlier entries, by that of the nodes that are covered with it, and by what
  -- follows it where there is none of both
  abbrev pub judged : List HeldEntry → HeldEntry → ℕ → Option FeedFault → Option FeedFault → Course → Course
  judged es e lines (Some fault) nodes rest = shows es (nodes_followed b (length heads) es) fault lines
  judged es e lines None (Some fault) rest = shows es (nodes_followed b (length heads) (es ++ e ∷ [])) fault lines
  judged es e lines None None rest = rest

  -- The course of lines after these entries. The first entry can begin after `skip` lines; `at` lines stand before it.
  abbrev pub entries_course : List HeldEntry → ℕ → ℕ → List (List ℕ) → Course
  entries_course es at skip [] = waits es []
  entries_course es at (suc skip) (l ∷ ls) = entries_course es at skip ls
  entries_course es at zero (l ∷ ls) =
      if opens (head_named heads l) (before_it es l) l
      then (if nat_le (word l 4) (length ls)
      then (if is_whole (head_named heads l) (before_it es l) l ls
      then judged es (entry_of l ls) (at + suc (word l 4))
      (entry_fault es (byte_at at) (entry_of l ls))
      (node_fault b (length heads) (es ++ entry_of l ls ∷ []))
      (entries_course (es ++ entry_of l ls ∷ []) (at + suc (word l 4)) (word l 4) ls)
      else shows es (nodes_followed b (length heads) es) (Refused (byte_at at)) (at + suc (word l 4)))
      else waits es (l ∷ ls))
      else shows es (nodes_followed b (length heads) es) (Refused (byte_at at)) (at + 1)

  abbrev pub after_heads : Option ℕ → List (List ℕ) → Course
  after_heads (Some i) ls = shows [] [] (NotThisRun i) (i + 1)
  after_heads None ls = entries_course [] (length heads) (length heads) ls

  -- the course of a stream's lines
  abbrev pub lines_course : List (List ℕ) → Course
  lines_course ls = after_heads (foreign_line 0 heads ls) ls

  -- the course of a stream's bytes; bytes after the last whole line are not looked at yet
  abbrev pub course : List ℕ → Course
  course bytes = lines_course (whole_lines bytes)
