-- A list that goes on with the same, of which a front is held.
use Rattle.std.specs.Prelude.{ℕ, ◌-◌, ◌≤◌, ◌++◌, Bool, false, List, length, replicate}
use Rattle.onll_pmem.specs.Device.{zero_line}

-- this many in all, with the same after those of a front
abbrev pub followed : {A : Type 0} → A → List A → ℕ → List A
followed rest front count = front ++ replicate (count - length front) rest

-- lines, with zeros after those of a front
abbrev pub front_view : List (List ℕ) → ℕ → List (List ℕ)
front_view front count = followed zero_line front count

-- marks, unset after those of a front
abbrev pub marks_view : List Bool → ℕ → List Bool
marks_view front count = followed false front count

-- what is held is a part, and all have room
pub record FitsRoom (held count room : ℕ) : Type 0 where
  pub within : held ≤ count
  pub room_for : count ≤ room
