-- A cursor over the image of a log: what the image holds, and how far the cursor went.
use Rattle.std.specs.Prelude.{ℕ, ◌≡◌, ◌+◌, ◌≤◌, List, [], ◌∷◌, length, take, drop, Option, Some, None, IfSome}
use Rattle.onll_model.specs.Limits.{most_threads}
use Rattle.onll_model.specs.declared.node.Node.{Node}
use Rattle.onll_model.specs.Segment.{Segment}
use Rattle.onll_log.specs.declared.head.LogHead.{LogHead}
use Rattle.onll_log.specs.declared.cursor.EntryView.{EntryView}
use Rattle.onll_log.specs.declared.survey.LogSurvey.{LogSurvey}
use Rattle.onll_log.specs.Grammar.{Content, entries_from, used_with}
use Rattle.onll_log.specs.Survey.{survey_of}

-- what the whole image holds, and how many of its entries the cursor went past
pub record CursorState : Type 0 where
  pub content : Content
  pub passed : ℕ

-- the entries that were gone past, and those that are left
abbrev pub entries_passed : CursorState → List Segment
entries_passed c = take c.passed c.content.entries

abbrev pub entries_left : CursorState → List Segment
entries_left c = drop c.passed c.content.entries

-- how many lines the head and the entries that were gone past take
abbrev pub lines_passed : CursorState → ℕ
lines_passed c = used_with c.content.head (entries_passed c)

-- the first of these entries, which begins at this line
abbrev pub first_view : ℕ → List Segment → Option EntryView
first_view line [] = None
first_view line (s ∷ ss) = Some (record { line = line; place = s.place; count = length s.nodes })

abbrev pub first_nodes : List Segment → List Node
first_nodes [] = []
first_nodes (s ∷ ss) = s.nodes

-- one entry further
abbrev pub one_further : CursorState → CursorState
one_further c = record { content = c.content; passed = c.passed + 1 }

-- before the first entry
abbrev pub before_all : CursorState → CursorState
before_all c = record { content = c.content; passed = 0 }

-- ---- how a cursor stands on lines
-- the entries of lines that begin with this head, and none without a head
abbrev pub entries_under : Option LogHead → List (List ℕ) → List Segment
entries_under None lines = []
entries_under (Some head) lines = entries_from head 0 0 (drop 1 lines)

-- the entries of lines that stand after this many accepted ones
abbrev pub entries_after : Option LogHead → ℕ → List (List ℕ) → List Segment
entries_after None before lines = []
entries_after (Some head) before lines = entries_from head before 0 lines

-- After this many entries the cursor stands at the line `at`, where the rest of the image's entries begin, and has looked at
-- the first of them.
pub record StandsAt (head : Option LogHead) (lines : List (List ℕ)) (passed at : ℕ) (next : Option EntryView) : Type 0 where
  pub threads : IfSome head (λ h. h.threads ≤ most_threads)
  pub few : passed ≤ at
  pub within : at ≤ length lines
  pub gone : at ≡ used_with head (take passed (entries_under head lines))
  pub left : drop passed (entries_under head lines) ≡ entries_after head passed (drop at lines)
  pub looked : next ≡ first_view at (entries_after head passed (drop at lines))

-- so it stands, and this many entries are known to be accepted, and this of all of them
pub record StandsOver (head : Option LogHead) (lines : List (List ℕ))
    (known : ℕ) (survey : Option LogSurvey) (passed at : ℕ) (next : Option EntryView) : Type 0 where
  pub stands : StandsAt head lines passed at next
  pub accepted : known ≤ length (entries_under head lines)
  pub surveyed : IfSome survey (λ s. s ≡ survey_of (record { head = head; entries = entries_under head lines }))
