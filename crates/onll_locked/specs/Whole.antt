use Rattle.std.specs.Prelude.{◌≡◌, List, [], length, Some}
use Rattle.std.specs.List.{AllByRecursion}
use Rattle.onll_model.specs.declared.node.Node.{Node}
use Rattle.onll_model.specs.Trace.{IsNumbered}
use Rattle.onll_model.specs.Segment.{Agrees, Covers}
use Rattle.onll_log.specs.declared.head.LogHead.{LogHead}
use Rattle.onll_log.specs.Grammar.{Content}
use Rattle.onll_log.specs.Log.{LogState}
use Rattle.onll_merge.specs.Merge.{AllRise}
use Rattle.onll_merge.specs.Laws.{all_segments, EachSegment, HeadsFit}

-- What the logs of all threads hold between two calls.

-- a log as read
abbrev pub content_read : {Device : Type 0} → LogState Device → Content
content_read log = record { head = Some log.head; entries = log.entries }

-- Together the logs hold the trace, all of it: each head is the expected one, each entry agrees with the trace, the entries
-- of a log rise, each place of the trace lies in an entry, and the trace is numbered.
pub record HoldWhole (trace : List Node) (heads : List LogHead) (logs : List Content) : Type 0 where
  pub heads_fit : HeadsFit logs heads
  pub agree : EachSegment (Agrees trace) logs
  pub rise : AllRise logs
  pub cover : Covers (all_segments logs) (length trace)
  pub numbered : IsNumbered trace

-- no log has an entry
abbrev pub AreEmpty : List Content → Type 0
AreEmpty logs = AllByRecursion (λ (log : Content). log.entries ≡ []) logs
