-- What the logs of all threads hold of a trace, from which an object can go on.
use Rattle.std.specs.Prelude.{ℕ, suc, List, [], ◌∷◌, ◌++◌, ◌≡◌, length, map, Some, Ok}
use Rattle.std.specs.Option.{option_map_or}
use Rattle.onll_model.specs.declared.node.Node.{Node}
use Rattle.onll_model.specs.declared.mark.Mark.{Mark}
use Rattle.onll_model.specs.Segment.{Segment}
use Rattle.onll_model.specs.Marks.{marked}
use Rattle.onll_model.specs.Limits.{most_updates}
use Rattle.onll_log.specs.declared.head.LogHead.{LogHead}
use Rattle.onll_log.specs.Log.{LogState}
use Rattle.onll_log.specs.Grammar.{Content, content_of}
use Rattle.onll_merge.specs.Merge.{merge}
use Rattle.onll_trace.specs.Plans.{CanResume, HasRooms}
use Rattle.onll_shared.specs.Starts.{entries_of}

-- what a log reads as
abbrev pub content_held : {Device : Type 0} → LogState Device → Content
content_held log = record { head = Some log.head; entries = log.entries }

-- the entries that an image holds, none where it is no log
abbrev pub image_entries : List (List ℕ) → List Segment
image_entries image = option_map_or (λ (c : Content). c.entries) (content_of image) []

abbrev pub head_held : {Device : Type 0} → LogState Device → LogHead
head_held log = log.head

-- a mark for each segment of thread t
abbrev pub marks_of : ℕ → List Segment → List Mark
marks_of t ss = map (λ (s : Segment). record { thread = t; place = s.place; count = length s.nodes }) ss

-- for those of all threads, the first of them thread t
abbrev pub marks_from : ℕ → List (List Segment) → List Mark
marks_from t [] = []
marks_from t (ss ∷ rest) = marks_of t ss ++ marks_from (suc t) rest

-- The logs merge to these nodes, of which the marks name what each log holds, and an object can go on from them, with any rooms
-- that leave each thread numbers enough.
pub record HoldBase {Device : Type 0} (logs : List (LogState Device)) (base : List Node) (marks : List Mark) : Type 0 where
  pub merged : merge (map head_held logs) (map content_held logs) ≡ Ok base
  pub entries : map entries_of logs ≡ marked (length logs) base marks
  pub resumable : (rooms : List ℕ) → length rooms ≡ length logs → HasRooms base rooms most_updates → CanResume base marks rooms
