use Rattle.std.specs.Prelude.{ℕ, ◌≡◌, ◌+◌, ◌*◌, ◌<◌, ◌≤◌, ◌==◌, if◌then◌else◌, List, [], ◌∷◌, ◌++◌, length, map, suc}
use Rattle.onll_model.specs.Limits.{most_updates}
use Rattle.std.specs.List.{AllByRecursion, flat_map}
use Rattle.onll_words.specs.Lines.{bytes_of_words}
use Rattle.onll_model.specs.declared.node.Node.{Node}
use Rattle.onll_model.specs.Names.{words_of_node, HasNumber}
use Rattle.onll_model.specs.Segment.{Segment}
use Rattle.onll_log.specs.declared.head.LogHead.{LogHead}
use Rattle.onll_log.specs.Head.{digest_words, head_line}
use Rattle.onll_log.specs.Masks.{masks}

-- The lines of a log: the head's line, then for each entry one entry line and a line for each node.

-- the bytes ONLLENT1, the lowest first
abbrev pub entry_magic : ℕ
entry_magic = 0x31544e454c4c4e4f

-- the entry digest (format 1): over the log digest, the entry line's first five words, and the node lines
abbrev pub entry_digest : LogHead → List ℕ → List (List ℕ) → List ℕ
entry_digest head front lines = digest_words (bytes_of_words head.digest ++ (bytes_of_words front ++ flat_map bytes_of_words lines))

-- the last three words of an entry line, which guard its node lines: a digest in format 1, masks in format 2
abbrev pub guard : LogHead → List ℕ → List (List ℕ) → List ℕ
guard head front lines = if head.format == 1 then entry_digest head front lines else masks lines

-- the first five words of the line of the entry after `before` entries
abbrev pub entry_front : LogHead → ℕ → Segment → List ℕ
entry_front head before s = entry_magic ∷ head.thread ∷ (before + 1) ∷ s.place ∷ length s.nodes ∷ []

abbrev pub node_lines : List Node → List (List ℕ)
node_lines nodes = map words_of_node nodes

abbrev pub entry_line : LogHead → ℕ → Segment → List ℕ
entry_line head before s = entry_front head before s ++ guard head (entry_front head before s) (node_lines s.nodes)

abbrev pub entry_lines : LogHead → ℕ → Segment → List (List ℕ)
entry_lines head before s = entry_line head before s ∷ node_lines s.nodes

-- the lines of entries, the first of them after `before` others
abbrev pub entries_lines : LogHead → ℕ → List Segment → List (List ℕ)
entries_lines head before [] = []
entries_lines head before (s ∷ ss) = entry_lines head before s ++ entries_lines head (suc before) ss

-- the lines of a log with these entries
abbrev pub log_lines : LogHead → List Segment → List (List ℕ)
log_lines head ss = head_line head ∷ entries_lines head 0 ss

-- a node that a log of this many threads can hold
pub record FitsNode (threads : ℕ) (n : Node) : Type 0 where
  pub thread : n.thread < threads
  pub number : HasNumber n
  pub row : length n.row.w ≡ 7

-- the numbers of such a node; every row has seven words
abbrev pub CanHold : ℕ → Node → Type 0
CanHold threads n = (n.thread < threads) × HasNumber n

-- a segment that an entry can hold
pub record FitsEntry (threads : ℕ) (s : Segment) : Type 0 where
  pub some_nodes : 1 ≤ length s.nodes
  pub few_nodes : length s.nodes ≤ threads
  pub from_one : length s.nodes ≤ s.place
  pub place : s.place ≤ most_updates * threads
  pub nodes : AllByRecursion (FitsNode threads) s.nodes

abbrev pub FitEntries : ℕ → List Segment → Type 0
FitEntries threads ss = AllByRecursion (FitsEntry threads) ss
