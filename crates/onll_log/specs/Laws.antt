-- Laws over the grammar of logs, whatever code reads and writes them.
use Rattle.std.specs.Prelude.{ℕ, ◌≡◌, ◌+◌, ◌-◌, ◌≤◌, ◌↔◌, List, [], ◌∷◌, ◌++◌, length, take, Some, None, true}
use Rattle.onll_model.specs.Limits.{most_threads}
use Rattle.onll_pmem.specs.Device.{DeviceState, Step, after_steps, AreLegal, IsImage, NonePending, zero_lines, FillsLines, Mixed}
use Rattle.onll_model.specs.Segment.{Segment}
use Rattle.onll_log.specs.declared.head.LogHead.{LogHead}
use Rattle.onll_log.specs.Head.{head_line, head_of, is_head, FitsHead}
use Rattle.onll_log.specs.Encoding.{entry_lines, entries_lines, log_lines, FitsEntry, FitEntries}
use Rattle.onll_log.specs.Grammar.{entries_from, content_of, lines_in, used_with, used_by}
use Rattle.onll_log.specs.MaskBits.{AreMasks}
use Rattle.onll_log.specs.Written.{IsWritten, IsEmptyLog}
use Rattle.onll_log.specs.Append.{written_front}
use Rattle.onll_log.specs.Remains.{HasRemains, IsWiped, IsCut, HoldsAlone}
use Rattle.onll_log.specs.Cursor.{CursorState, entries_passed, entries_left, lines_passed, first_view}
use Rattle.onll_log.specs.Torn.{AreLines, Among, log_image, Holds, TornOrWhole}

-- ---- what is encoded is read back
-- a head is read back from its line
pub record ReadBack (head : LogHead) : Type 0 where
  pub test : is_head (head_line head) ≡ true
  pub head_back : head_of (head_line head) ≡ head

abbrev pub HeadLaw : Type 0
HeadLaw = (head : LogHead) → FitsHead head → ReadBack head

-- the entries of encoded lines are the encoded ones, and then those of what follows
abbrev pub EntriesLaw : Type 0
EntriesLaw = (head : LogHead) (ss : List Segment) (rest : List (List ℕ)) → FitEntries head.threads ss
    → entries_from head 0 0 (entries_lines head 0 ss ++ rest) ≡ ss ++ entries_from head (length ss) 0 rest

-- zeros hold no entry
abbrev pub ZerosLaw : Type 0
ZerosLaw = (head : LogHead) (before count : ℕ) → entries_from head before 0 (zero_lines count) ≡ []

-- a log with zeros after it holds its head and its entries
abbrev pub ContentLaw : Type 0
ContentLaw = (head : LogHead) (ss : List Segment) (zeros : ℕ) → FitsHead head → FitEntries head.threads ss
    → Holds (log_image head ss zeros) head ss

-- zeros alone are the empty log
abbrev pub EmptyLaw : Type 0
EmptyLaw = (count : ℕ) → 1 ≤ count → content_of (zero_lines count) ≡ Some (record { head = None; entries = [] })

-- an entry more stands after the others
abbrev pub MoreLaw : Type 0
MoreLaw = (head : LogHead) (ss : List Segment) (s : Segment)
    → log_lines head (ss ++ s ∷ []) ≡ log_lines head ss ++ entry_lines head (length ss) s

-- lines of a log have eight words
abbrev pub EightLaw : Type 0
EightLaw = (head : LogHead) (ss : List Segment) (zeros : ℕ) → FitsHead head → FitEntries head.threads ss
    → AreLines (log_image head ss zeros)

-- entries take as many lines as they are said to
abbrev pub LinesLaw : Type 0
LinesLaw = (head : LogHead) (before : ℕ) (ss : List Segment) → length (entries_lines head before ss) ≡ lines_in ss

-- ---- the torn entry of format 2
-- between a log and that log with an entry more, every image holds the entry more exactly where it is the whole
abbrev pub TornLaw : Type 0
TornLaw = (head : LogHead) (ss : List Segment) (s : Segment) (before after : ℕ) (image : List (List ℕ)) → FitsHead head → head.format ≡ 2
    → FitEntries head.threads ss → FitsEntry head.threads s → Mixed (log_image head ss before) (log_image head (ss ++ s ∷ []) after) image
    → TornOrWhole head ss s (log_image head (ss ++ s ∷ []) after) image

-- the same where only some words of the entry were written
abbrev pub PartLaw : Type 0
PartLaw = (head : LogHead) (ss : List Segment) (s : Segment) (before after : ℕ) (read image : List (List ℕ))
    → FitsHead head → head.format ≡ 2
    → FitEntries head.threads ss → FitsEntry head.threads s → Among (entry_lines head (length ss) s ++ zero_lines after) read
    → Mixed (log_image head ss before) (log_lines head ss ++ read) image → TornOrWhole head ss s (log_image head (ss ++ s ∷ []) after) image

-- from a device that holds a log, with no word pending, to where it reads as that log with an entry more:
-- every image of every state on the way holds the entry more exactly where it is the whole
abbrev pub LogCrashLaw : Type 0
LogCrashLaw = (head : LogHead) (ss : List Segment) (s : Segment) (before after : ℕ) (d : DeviceState)
    (done rest : List Step) (image : List (List ℕ)) → FitsHead head → head.format ≡ 2
    → FitEntries head.threads ss → FitsEntry head.threads s → NonePending d → d.read ≡ log_image head ss before → AreLegal d (done ++ rest)
    → (after_steps d (done ++ rest)).read ≡ log_image head (ss ++ s ∷ []) after → IsImage (after_steps d done) image
    → TornOrWhole head ss s (log_image head (ss ++ s ∷ []) after) image

-- the first lines and zeros in the place of the others are among the whole
abbrev pub FrontLaw : Type 0
FrontLaw = (lines : List (List ℕ)) (front zeros : ℕ) → AreLines lines
    → Among (lines ++ zero_lines zeros) (take front lines ++ zero_lines (length lines - front + zeros))

-- while the lines of an entry are written, only words that were zero have changed, to those of the whole
abbrev pub AppendLaw : Type 0
AppendLaw = (head : LogHead) (ss : List Segment) (s : Segment) (front zeros : ℕ) → FitsEntry head.threads s
    → FillsLines (written_front (log_lines head ss) (entry_lines head (length ss) s) front zeros) (log_image head (ss ++ s ∷ []) zeros)

-- between a log and that log with an entry more, an image that isn't the whole has remains
abbrev pub LeavesLaw : Type 0
LeavesLaw = (head : LogHead) (ss : List Segment) (s : Segment) (before after : ℕ) (image : List (List ℕ))
    → head.format ≡ 2 → FitsEntry head.threads s
    → Mixed (log_image head ss before) (log_image head (ss ++ s ∷ []) after) image
    → (image ≡ log_image head (ss ++ s ∷ []) after → ⊥) → HasRemains head ss image

-- whatever words of remains are wiped, the entries stay
abbrev pub WipedLaw : Type 0
WipedLaw = (head : LogHead) (ss : List Segment) (image wiped : List (List ℕ)) → AreLines image → Holds image head ss
    → HasRemains head ss image → IsWiped head ss image wiped → Holds wiped head ss

-- the used lines of any image and then zeros hold what it holds, and nothing stands after it
abbrev pub CutLaw : Type 0
CutLaw = (head : LogHead) (ss : List Segment) (image : List (List ℕ)) (zeros : ℕ) → AreLines image → Holds image head ss
    → IsCut head ss (take (used_with (Some head) ss) image ++ zero_lines zeros)

-- the used lines of an image that has a head stand for all of its lines
abbrev pub UsedLaw : Type 0
UsedLaw = (head : LogHead) (ss : List Segment) (image : List (List ℕ)) → AreLines image → Holds image head ss
    → HoldsAlone head ss image (take (used_with (Some head) ss) image)

-- ---- cursors
-- where a cursor shows no entry it went past all that the image holds, and over all used lines
abbrev pub CursorEndLaw : Type 0
CursorEndLaw = (c : CursorState) → first_view (lines_passed c) (entries_left c) ≡ None
    → (entries_passed c ≡ c.content.entries) × (lines_passed c ≡ used_by c.content)

-- ---- what is read was written
-- an image holds a head and entries exactly where they are written in it, whatever stands after them
abbrev pub WrittenLaw : Type 0
WrittenLaw = (image : List (List ℕ)) (head : LogHead) (ss : List Segment) → AreLines image → Holds image head ss ↔ IsWritten image head ss

-- an image is a log without a head exactly where it is the empty log
abbrev pub NoHeadLaw : Type 0
NoHeadLaw = (image : List (List ℕ)) (ss : List Segment) → AreLines image
    → (content_of image ≡ Some (record { head = None; entries = ss })) ↔ IsEmptyLog image ss

-- the masks of up to sixteen lines are those of the format
abbrev pub MasksLaw : Type 0
MasksLaw = (lines : List (List ℕ)) → AreLines lines → length lines ≤ most_threads → AreMasks lines
