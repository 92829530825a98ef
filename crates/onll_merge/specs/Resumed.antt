use Rattle.std.specs.Prelude.{◌≡◌, ℕ, List, length, map, Ok}
use Rattle.std.specs.List.{AllByRecursion}
use Rattle.onll_model.specs.declared.node.Node.{Node}
use Rattle.onll_model.specs.Segment.{Segment}
use Rattle.onll_model.specs.FrameLaws.{IsResumable}
use Rattle.onll_log.specs.declared.head.LogHead.{LogHead}
use Rattle.onll_log.specs.Encoding.{FitsNode, FitsEntry}
use Rattle.onll_log.specs.Grammar.{Content}
use Rattle.onll_merge.specs.Merge.{merge}
use Rattle.onll_merge.specs.Laws.{EachSegment}

-- What was recovered can be gone on from.

-- the segments of each log
abbrev pub entries_of : List Content → List (List Segment)
entries_of logs = map (λ (c : Content). c.entries) logs

-- a run of `count` threads can go on from these nodes, which these logs hold, and each node has a name
pub record CanGoOn (count : ℕ) (nodes : List Node) (logs : List Content) : Type 0 where
  pub resumable : IsResumable count nodes (entries_of logs)
  pub fit : AllByRecursion (FitsNode count) nodes

-- whatever logs merge, one for each thread, whose segments are those that entries can hold
abbrev pub ResumableLaw : Type 0
ResumableLaw = (count : ℕ) (nodes : List Node) (heads : List LogHead) (logs : List Content)
    → merge heads logs ≡ Ok nodes → length logs ≡ count → EachSegment (FitsEntry count) logs → CanGoOn count nodes logs
