use Rattle.std.specs.Prelude.{ℕ, zero, suc, ◌+◌, ◌*◌, ◌==◌, ◌&&◌, if◌then◌else◌, Bool, true, false, List, [], ◌∷◌, length, take, drop, map, nat_le, Option, Some, None}
use Rattle.onll_model.specs.Limits.{most_updates}
use Rattle.onll_model.specs.declared.node.Node.{Node}
use Rattle.onll_model.specs.Names.{node_of_name}
use Rattle.onll_model.specs.Segment.{Segment}
use Rattle.onll_log.specs.declared.head.LogHead.{LogHead}
use Rattle.onll_log.specs.Head.{word, is_head, head_of}
use Rattle.onll_log.specs.Encoding.{entry_magic, guard}

-- How any image of a log is read. Lines are lists of eight words.

abbrev pub same_words : List ℕ → List ℕ → Bool
same_words [] [] = true
same_words (x ∷ xs) (y ∷ ys) = (x == y) && same_words xs ys
same_words xs ys = false

-- the first word of each line is a name, of a thread below top / 4,096
abbrev pub all_named : ℕ → List (List ℕ) → Bool
all_named top [] = true
all_named top (l ∷ ls) = nat_le 1 (word l 0) && (nat_le (word l 0) top && all_named top ls)

-- Whether an entry begins with this line before the lines that follow, after `before` accepted entries:
-- its magic, its thread, its number in the log, its count of nodes, its place, that the lines are there, their names, and their guard.
abbrev pub is_entry : LogHead → ℕ → List ℕ → List (List ℕ) → Bool
is_entry head before line rest =
    (word line 0 == entry_magic)
    && ((word line 1 == head.thread)
    && ((word line 2 == before + 1)
    && (nat_le 1 (word line 4) && (nat_le (word line 4) head.threads
    && (nat_le (word line 4) (word line 3) && (nat_le (word line 3) (most_updates * head.threads)
    && (nat_le (word line 4) (length rest)
    && (all_named (most_updates * head.threads) (take (word line 4) rest)
    && same_words (drop 5 line) (guard head (take 5 line) (take (word line 4) rest))))))))))

abbrev pub node_of_line : List ℕ → Node
node_of_line line = node_of_name (word line 0) (record { w = drop 1 line })

abbrev pub segment_of : List ℕ → List (List ℕ) → Segment
segment_of line rest = record { place = word line 3; nodes = map node_of_line (take (word line 4) rest) }

-- the accepted entries of these lines, after `before` others; the first can begin after `skip` lines
abbrev pub entries_from : LogHead → ℕ → ℕ → List (List ℕ) → List Segment
entries_from head before skip [] = []
entries_from head before (suc skip) (l ∷ ls) = entries_from head before skip ls
entries_from head before zero (l ∷ ls) =
    if is_entry head before l ls then segment_of l ls ∷ entries_from head (suc before) (word l 4) ls else []

-- what an image holds; an image of zeros has no head and no entry
pub record Content : Type 0 where
  pub head : Option LogHead
  pub entries : List Segment

abbrev pub is_zero_line : List ℕ → Bool
is_zero_line [] = true
is_zero_line (w ∷ ws) = (w == 0) && is_zero_line ws

abbrev pub are_zero_lines : List (List ℕ) → Bool
are_zero_lines [] = true
are_zero_lines (l ∷ ls) = is_zero_line l && are_zero_lines ls

-- what an image of a log holds; None where it is no log
abbrev pub content_of : List (List ℕ) → Option Content
content_of [] = None
content_of (l ∷ ls) =
    if is_head l
    then Some (record { head = Some (head_of l); entries = entries_from (head_of l) 0 0 ls })
    else (if are_zero_lines (l ∷ ls) then Some (record { head = None; entries = [] }) else None)

-- how many lines entries take
abbrev pub lines_in : List Segment → ℕ
lines_in [] = 0
lines_in (s ∷ ss) = suc (length s.nodes) + lines_in ss

-- how many lines are used by a log with these entries; an image of zeros uses none
abbrev pub used_with : Option LogHead → List Segment → ℕ
used_with None ss = 0
used_with (Some head) ss = 1 + lines_in ss

-- how many lines of an image are used: up to the end of its last accepted entry
abbrev pub used_by : Content → ℕ
used_by c = used_with c.head c.entries

-- the format by which an image is read: 2 exactly where there is a line 0 and its word 1 is 2
abbrev pub format_in : List (List ℕ) → ℕ
format_in [] = 1
format_in (l ∷ ls) = if word l 1 == 2 then 2 else 1
