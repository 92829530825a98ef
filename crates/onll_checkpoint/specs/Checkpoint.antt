-- What a checkpoint holds.
use Rattle.std.specs.Prelude.{ℕ, ◌^◌, ◌<◌, ◌≤◌, List, length, slice_index}

-- a checkpoint: its number, the place after which it was made, and the text of the state there
pub record CheckpointState : Type 0 where
  pub number : ℕ
  pub place : ℕ
  pub text : List ℕ

-- how long a text is at most
abbrev pub longest_saved : ℕ
longest_saved = 1048576

-- the values that a checkpoint can have
pub record FitsCheckpoint (c : CheckpointState) : Type 0 where
  pub number : 1 ≤ c.number
  pub number_fits : c.number < 2 ^ 64
  pub place_fits : c.place < 2 ^ 64
  pub text : length c.text ≤ longest_saved
  pub bytes : (i : ℕ) → slice_index c.text i < 256
