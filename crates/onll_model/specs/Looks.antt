use Rattle.std.specs.Prelude.{ℕ, Bool, true, false, List, [], ◌∷◌, ◌≡◌, ◌-◌, ◌<◌, ◌≤◌, ◌⊎◌}
use Rattle.std.specs.List.{Contains}

-- What a call looks at. It loads the tail, the node of place `front`, and then flags from there down, each with its place
-- and what it read, until one is set or the base is reached: the look's place.
abbrev pub IsLook : ℕ → ℕ → ℕ → List (ℕ × Bool) → Type 0
IsLook b front place [] = (front ≡ b) × (place ≡ b)
IsLook b front place ((p, true) ∷ []) = (b < front) × (p ≡ front) × (place ≡ front)
IsLook b front place ((p, true) ∷ load ∷ loads) = ⊥
IsLook b front place ((p, false) ∷ loads) = (b < front) × (p ≡ front) × IsLook b (front - 1) place loads

-- So the place is in the base or above it, every place from the front down to it was loaded as unset, and the place itself
-- was loaded as set where it isn't the base.
pub record LookSays (b front place : ℕ) (loads : List (ℕ × Bool)) : Type 0 where
  pub base : b ≤ place
  pub below : place ≤ front
  pub unset : (p : ℕ) → place < p → p ≤ front → Contains loads (p, false)
  pub set : (place ≡ b) ⊎ Contains loads (place, true)

abbrev pub LookLaw : Type 0
LookLaw = (b front place : ℕ) (loads : List (ℕ × Bool)) → IsLook b front place loads → LookSays b front place loads
