use Rattle.std.specs.Prelude.{ℕ, ◌≡◌, ◌+◌, ◌-◌, ◌<◌, ◌≤◌, ◌⊎◌, List, [], ◌∷◌, length, take, drop}
use Rattle.onll_model.specs.declared.node.Node.{Node}

-- A segment is what one entry of a log holds: nodes at places that follow each other, the last of them at this place.
pub record Segment : Type 0 where
  pub place : ℕ
  pub nodes : List Node

-- the nodes of the places above `below`, up to this place
abbrev pub nodes_between : List Node → ℕ → ℕ → List Node
nodes_between trace below place = drop below (take place trace)

-- the segment's nodes are those of the trace at its places
pub record Agrees (trace : List Node) (s : Segment) : Type 0 where
  pub some_nodes : 1 ≤ length s.nodes
  pub from_one : length s.nodes ≤ s.place
  pub in_trace : s.place ≤ length trace
  pub nodes : s.nodes ≡ nodes_between trace (s.place - length s.nodes) s.place

-- the place is one of the segment's
abbrev pub Within : ℕ → Segment → Type 0
Within p s = (p ≤ s.place) × (s.place < p + length s.nodes)

-- the place is one of some segment's
abbrev pub LiesIn : ℕ → List Segment → Type 0
LiesIn p [] = ⊥
LiesIn p (s ∷ ss) = Within p s ⊎ LiesIn p ss

-- every place from 1 to p lies in one of the segments
abbrev pub Covers : List Segment → ℕ → Type 0
Covers ss p = (q : ℕ) → 1 ≤ q → q ≤ p → LiesIn q ss

-- each segment's first place is above the last place of the one before it, and the first one's above this place
abbrev pub Rises : ℕ → List Segment → Type 0
Rises last [] = Unit {0}
Rises last (s ∷ ss) = (last + length s.nodes ≤ s.place) × Rises s.place ss

-- the last place of segments that rise, this place where there is none
abbrev pub last_place : ℕ → List Segment → ℕ
last_place last [] = last
last_place last (s ∷ ss) = last_place s.place ss
