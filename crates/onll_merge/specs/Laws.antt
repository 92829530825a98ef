-- Laws of the merge, whatever code stands for it.
use Rattle.std.specs.Prelude.{◌≡◌, ℕ, ◌+◌, ◌-◌, ◌<◌, ◌≤◌, List, [], ◌∷◌, ◌++◌, length, take, Some, Ok, IfSome, slice_index_or}
use Rattle.std.specs.List.{AllByRecursion}
use Rattle.onll_model.specs.declared.node.Node.{Node}
use Rattle.onll_model.specs.Segment.{Segment, Agrees, Within, LiesIn, Covers, Rises}
use Rattle.onll_model.specs.Trace.{IsNumbered}
use Rattle.onll_log.specs.declared.head.LogHead.{LogHead}
use Rattle.onll_log.specs.Grammar.{Content}
use Rattle.onll_merge.specs.Merge.{node_in_segment, node_in_log, top_of, AllRise, merge}

-- the segments of all logs
abbrev pub all_segments : List Content → List Segment
all_segments [] = []
all_segments (c ∷ cs) = c.entries ++ all_segments cs

-- each segment of each log has this fact
abbrev pub EachSegment : (Segment → Type 0) → List Content → Type 0
EachSegment P logs = AllByRecursion (λ c. AllByRecursion P c.entries) logs

-- each head that a log has is its expected one
abbrev pub HeadsFit : List Content → List LogHead → Type 0
HeadsFit [] heads = Unit {0}
HeadsFit (c ∷ cs) [] = Unit {0}
HeadsFit (c ∷ cs) (h ∷ hs) = IfSome c.head (λ head. head ≡ h) × HeadsFit cs hs

-- The logs hold one trace: each head is the expected one, each segment agrees with the trace, the segments of a log
-- rise, each place up to the greatest lies in a segment, and the trace is numbered.
pub record HoldOne (trace : List Node) (heads : List LogHead) (logs : List Content) : Type 0 where
  pub heads_fit : HeadsFit logs heads
  pub agree : EachSegment (Agrees trace) logs
  pub rise : AllRise logs
  pub cover : Covers (all_segments logs) (top_of logs)
  pub numbered : IsNumbered trace

-- logs that hold one trace merge to its front, as far as the greatest place
abbrev pub MergedFrontLaw : Type 0
MergedFrontLaw = (trace : List Node) (heads : List LogHead) (logs : List Content) → HoldOne trace heads logs
    → merge heads logs ≡ Ok (take (top_of logs) trace)

-- which holds each place of a segment
abbrev pub TopLaw : Type 0
TopLaw = (logs : List Content) (p : ℕ) → LiesIn p (all_segments logs) → p ≤ top_of logs

-- Logs that merge hold one trace, the nodes that the merge gives: a segment of at least one node agrees with them.
pub record HoldMerged (nodes : List Node) (heads : List LogHead) (logs : List Content) : Type 0 where
  pub heads_fit : HeadsFit logs heads
  pub agree : EachSegment (λ s. 1 ≤ length s.nodes → Agrees nodes s) logs
  pub rise : AllRise logs
  pub cover : Covers (all_segments logs) (top_of logs)
  pub numbered : IsNumbered nodes
  pub whole : length nodes ≡ top_of logs

abbrev pub BackLaw : Type 0
BackLaw = (nodes : List Node) (heads : List LogHead) (logs : List Content) → merge heads logs ≡ Ok nodes → HoldMerged nodes heads logs

-- the node i, from 1, of a segment of n nodes at the place q stands at the place q - n + i, as whole numbers
abbrev pub StandsLaw : Type 0
StandsLaw = (s : Segment) (i p : ℕ) (d : Node) → 1 ≤ i → i ≤ length s.nodes → p + length s.nodes ≡ s.place + i
    → node_in_segment s p ≡ Some (slice_index_or s.nodes (i - 1) d)

-- and a segment holds no other place
abbrev pub NoOtherLaw : Type 0
NoOtherLaw = (s : Segment) (p : ℕ) (x : Node) → node_in_segment s p ≡ Some x → Within p s

-- Of segments that rise, the one that holds a place says the log's node there; so no other one holds it.
abbrev pub OnceLaw : Type 0
OnceLaw = (ss : List Segment) (i p : ℕ) (x : Node) (d : Segment) → Rises 0 ss → i < length ss
    → node_in_segment (slice_index_or ss i d) p ≡ Some x
    → node_in_log ss p ≡ Some x
