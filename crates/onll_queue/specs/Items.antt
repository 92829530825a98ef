-- The state of a queue.

use Rattle.std.specs.Prelude.{ℕ, List, ◌<◌, ◌≤◌, ◌^◌, length, All}
use Rattle.onll_model.specs.Limits.{most_elements}

-- A queue is the list of its items, front first, and how many there is room for.
pub record Items : Type 0 where
  pub items : List ℕ
  pub room : ℕ

-- the items are numbers of 64 bits, and there is room for all of them
pub record IsQueue (s : Items) : Type 0 where
  pub numbers : All (λ x. x < 2 ^ 64) s.items
  pub fits : length s.items ≤ s.room
  pub least_room : 1 ≤ s.room
  pub greatest_room : s.room ≤ most_elements
