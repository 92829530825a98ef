-- Where a key stands in the pairs of a map, or would go to.

use Rattle.std.specs.Prelude.{ℕ, ◌≡◌, ◌<◌, ◌≤◌, length, slice_index_or}
use Rattle.std.specs.declared.cmp.Ordering.TheVariants.{Less, Equal, Greater}
use Rattle.onll_words.specs.Short.{ShortText}
use Rattle.onll_map.specs.Map.{Pairs, key_cmp}

-- the key k is at place i, and the keys before it are below k
pub record IsPlace (pairs : Pairs) (k : ShortText) (i : ℕ) : Type 0 where
  pub in_range : i < length pairs
  pub below : (j : ℕ) (d : ShortText × ShortText) → j < i → key_cmp (slice_index_or pairs j d).0 k ≡ Less
  pub here : (d : ShortText × ShortText) → key_cmp (slice_index_or pairs i d).0 k ≡ Equal

-- k is not there and would go to place i: the keys before it are below k, and those from it on are above
pub record IsGap (pairs : Pairs) (k : ShortText) (i : ℕ) : Type 0 where
  pub in_range : i ≤ length pairs
  pub below : (j : ℕ) (d : ShortText × ShortText) → j < i → key_cmp (slice_index_or pairs j d).0 k ≡ Less
  pub above : (j : ℕ) (d : ShortText × ShortText) → i ≤ j → j < length pairs → key_cmp (slice_index_or pairs j d).0 k ≡ Greater
