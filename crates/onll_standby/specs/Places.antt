-- The nodes that are held, by their places.
use Rattle.std.specs.Prelude.{ℕ, zero, suc, ◌+◌, ◌<◌, ◌≤◌, List, [], ◌∷◌, length, get_or, set, Option, Some, None, IfSome}
use Rattle.std.specs.List.{AllByRecursion}
use Rattle.onll_model.specs.declared.node.Node.{Node}
use Rattle.onll_model.specs.Limits.{most_threads}
use Rattle.onll_standby.specs.Held.{greatest_place}

-- the node of a place among slots, the first of which is for place 1
abbrev pub held_at : List (Option Node) → ℕ → Option Node
held_at slots zero = None
held_at slots (suc q) = get_or slots q None

-- these nodes put at the places above `below`
abbrev pub with_nodes : List (Option Node) → ℕ → List Node → List (Option Node)
with_nodes slots below [] = slots
with_nodes slots below (x ∷ xs) = with_nodes (set slots below (Some x)) (below + 1) xs

-- each node is of a thread that a run can have
abbrev pub IsOfRun : Node → Type 0
IsOfRun x = x.thread < most_threads

abbrev pub HoldsOfRun : Option Node → Type 0
HoldsOfRun slot = IfSome slot IsOfRun

-- how many places a run has at most
abbrev pub most_places : ℕ
most_places = greatest_place most_threads

-- and how many lines an entry
abbrev pub most_lines : ℕ
most_lines = 1 + most_threads

pub record AreSlots (slots : List (Option Node)) : Type 0 where
  pub few : length slots ≤ most_places
  pub of_run : AllByRecursion HoldsOfRun slots
