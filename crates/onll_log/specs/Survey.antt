-- A log's entries seen as a whole.
use Rattle.std.specs.Prelude.{ℕ, suc, ◌+◌, ◌≡◌, max, nat_lt, if◌then◌else◌, List, [], ◌∷◌, length, Option, Some, None, IfSome}
use Rattle.onll_model.specs.Segment.{Segment}
use Rattle.onll_log.specs.declared.survey.LogSurvey.{LogSurvey}
use Rattle.onll_log.specs.Grammar.{Content, content_of, used_by}

-- the greatest last place, 0 where there is no entry
abbrev pub top_in_log : List Segment → ℕ
top_in_log [] = 0
top_in_log (s ∷ ss) = max s.place (top_in_log ss)

-- the number, from 1, of the first entry whose first place is not above the last place of the one before it; this many entries
-- and the place `last` stand before these
abbrev pub disorder_from : ℕ → ℕ → List Segment → Option ℕ
disorder_from before last [] = None
disorder_from before last (s ∷ ss) =
    if nat_lt s.place (last + length s.nodes) then Some (suc before) else disorder_from (suc before) s.place ss

abbrev pub survey_of : Content → LogSurvey
survey_of c = record { entries = length c.entries; lines = used_by c; top = top_in_log c.entries; disorder = disorder_from 0 0 c.entries }

-- a log with one entry more, of so many nodes, the last of them at this place, which begins above the last one
abbrev pub with_entry : LogSurvey → ℕ → ℕ → LogSurvey
with_entry s place count = record { entries = s.entries + 1; lines = s.lines + (1 + count); top = max s.top place; disorder = s.disorder }

-- how many entries are known to be accepted where this is known of all of them
abbrev pub entries_known : Option LogSurvey → ℕ
entries_known None = 0
entries_known (Some survey) = survey.entries

-- what is known of an image's entries as a whole, if anything, is so, if it is a log
abbrev pub Surveys : List (List ℕ) → Option LogSurvey → Type 0
Surveys lines survey = (c : Content) → content_of lines ≡ Some c → IfSome survey (λ s. s ≡ survey_of c)
