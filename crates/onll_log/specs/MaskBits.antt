use Rattle.std.specs.Prelude.{ℕ, ◌≡◌, ◌+◌, ◌-◌, ◌*◌, ◌/◌, ◌%◌, ◌<◌, ◌≤◌, ◌==◌, if◌then◌else◌, List, length}
use Rattle.std.specs.Int.{bit_at}
use Rattle.onll_pmem.specs.Device.{word_at}
use Rattle.onll_log.specs.Head.{word}
use Rattle.onll_log.specs.Masks.{masks}

-- Masks by their bits. Lines are counted from 1, the words of a line, the masks and the bits of a mask from 0.

-- a bit of the masks of lines
abbrev pub mask_bit : List (List ℕ) → ℕ → ℕ → ℕ
mask_bit lines mask bit = bit_at (word (masks lines) mask) bit

-- the bit is the one for this word of this line
pub record IsBitOf (lines : List (List ℕ)) (mask bit line j : ℕ) : Type 0 where
  pub from_one : 1 ≤ line
  pub a_line : line ≤ length lines
  pub a_word : j < 8
  pub mask_word : mask ≡ (line - 1) / 7
  pub place : bit ≡ 8 * ((line - 1) % 7) + j

pub record AreMasks (lines : List (List ℕ)) : Type 0 where
  -- a bit for a word is 1 exactly where the word is not zero
  pub each : (mask bit line j : ℕ) → IsBitOf lines mask bit line j
      → mask_bit lines mask bit ≡ (if word_at lines (line - 1) j == 0 then 0 else 1)
  -- bit 63 is always 1
  pub top : (mask : ℕ) → mask < 3 → mask_bit lines mask 63 ≡ 1
  -- all other bits are 0
  pub others : (mask bit : ℕ) → mask < 3 → (bit ≡ 63 → ⊥) → ((line j : ℕ) → IsBitOf lines mask bit line j → ⊥) → mask_bit lines mask bit ≡ 0
