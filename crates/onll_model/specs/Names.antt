use Rattle.std.specs.Prelude.{ℕ, List, ◌∷◌, ◌+◌, ◌-◌, ◌*◌, ◌/◌, ◌%◌, ◌<◌, ◌≤◌}
use Rattle.onll_words.specs.declared.line.OpRow.{OpRow}
use Rattle.onll_model.specs.Limits.{most_threads, most_updates}
use Rattle.onll_model.specs.declared.node.Node.{Node}

-- A node's name is one number for its thread and its number in that thread, so that a line of a log holds it in one word.

abbrev pub name_of : Node → ℕ
name_of n = n.thread * most_updates + n.number

-- the one node of this name and row whose number is 1 to 4,096
abbrev pub node_of_name : ℕ → OpRow → Node
node_of_name name row = record { thread = (name - 1) / most_updates; number = (name - 1) % most_updates + 1; row = row }

-- a number that a name can hold
abbrev pub HasNumber : Node → Type 0
HasNumber n = (1 ≤ n.number) × (n.number ≤ most_updates)

-- a node that a log of up to 16 threads can hold
pub record HasName (n : Node) : Type 0 where
  pub thread : n.thread < most_threads
  pub number : HasNumber n

-- the words of a node's line in a log
abbrev pub words_of_node : Node → List ℕ
words_of_node n = name_of n ∷ n.row.w
