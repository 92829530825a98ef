use Rattle.std.specs.Prelude.{ℕ, List, ◌≡◌, ◌<◌, ◌≤◌, ◌⊎◌, Option, Some, IfSome, slice_get}

-- The order of calls in time. Nodes and the reads that have returned stand in one order: the node of a place, and after it
-- the reads at that place by the clock of their last step.
pub data Stand : Type 0 where
  NodeAt : ℕ → Stand
  ReadAt : ℕ → ℕ → Stand

abbrev pub StandsBefore : Stand → Stand → Type 0
StandsBefore (NodeAt p) (NodeAt q) = p < q
StandsBefore (NodeAt p) (ReadAt q ended) = p ≤ q
StandsBefore (ReadAt p ended) (NodeAt q) = p < q
StandsBefore (ReadAt p ended) (ReadAt q later) = (p < q) ⊎ ((p ≡ q) × (ended < later))

-- A call that has begun: the clock at its first step and, where it has returned, at its last; where it stands, once it
-- has a place. An update has one from its exchange on, a read when it returns.
pub record TimedCall : Type 0 where
  pub began : ℕ
  pub ended : Option ℕ
  pub stand : Option Stand

-- where the first call returned before the second began, and the second has a place, the first stands before it
abbrev pub InTime : TimedCall → TimedCall → Type 0
InTime a c = IfSome a.ended (λ ended. ended < c.began
    → IfSome c.stand (λ later. (first : Stand) × (a.stand ≡ Some first) × StandsBefore first later))

-- the calls of all threads, those in flight among them, stand as they came in time
abbrev pub IsInRealTime : List TimedCall → Type 0
IsInRealTime calls = (i j : ℕ) (a c : TimedCall) → slice_get calls i ≡ Some a → slice_get calls j ≡ Some c → InTime a c

-- no two calls stand at one point
abbrev pub StandApart : List TimedCall → Type 0
StandApart calls = (i j : ℕ) (a c : TimedCall) (point : Stand) → slice_get calls i ≡ Some a → slice_get calls j ≡ Some c
    → a.stand ≡ Some point → c.stand ≡ Some point → i ≡ j

-- the calls of one thread are made in turn: all but the last have returned, each before the later ones began
abbrev pub AreInTurn : List TimedCall → Type 0
AreInTurn calls = (i j : ℕ) (a c : TimedCall) → slice_get calls i ≡ Some a → slice_get calls j ≡ Some c → i < j
    → (ended : ℕ) × (a.ended ≡ Some ended) × (ended < c.began)

-- the order is strict, and any two points of it are comparable
pub record StandOrder : Type 0 where
  pub irreflexive : (a : Stand) → StandsBefore a a → ⊥
  pub transitive : (a c e : Stand) → StandsBefore a c → StandsBefore c e → StandsBefore a e
  pub total : (a c : Stand) → StandsBefore a c ⊎ ((a ≡ c) ⊎ StandsBefore c a)
