-- A map is the list of its pairs, a key and its value, in the order of the keys, and the greatest number of pairs.

use Rattle.std.specs.Prelude.{ℕ, Bool, true, false, ◌||◌, List, [], ◌∷◌, Option, Some, None, if◌then◌else◌, length, nat_lt, is_some, IsSome, ◌≡◌, ◌≤◌}
use Rattle.onll_model.specs.Limits.{most_elements}
use Rattle.std.specs.declared.cmp.Ordering.{Ordering}
use Rattle.std.specs.declared.cmp.Ordering.TheVariants.{Less}
use Rattle.std.specs.Ordering.{nat_cmp, on, is_lt, is_eq}
use Rattle.std.specs.Cmp.Lexicographic.{slice_cmp}
use Rattle.std.specs.Map.{keys_of, lookup, remove_entry}
use Rattle.std.specs.BTreeMap.{insert_entry, is_at}
use Rattle.std.specs.List.Sorted.{IsStrictlySortedBy}
use Rattle.onll_words.specs.Short.{ShortText}
use Rattle.onll_map.specs.declared.operation.MapOp.{MapOp}
use Rattle.onll_map.specs.declared.operation.MapOp.TheVariants.{Put, Del}
use Rattle.onll_map.specs.declared.operation.MapQuery.{MapQuery}
use Rattle.onll_map.specs.declared.operation.MapQuery.TheVariants.{Get, Next, Count}
use Rattle.onll_map.specs.declared.operation.MapReply.{MapReply}
use Rattle.onll_map.specs.declared.operation.MapReply.TheVariants.{New, Old, Full, Absent, Value, Key, Count as Counted}

abbrev pub Pairs : Type 0
Pairs = List (ShortText × ShortText)

pub record Entries : Type 0 where
  pub pairs : Pairs
  pub room : ℕ

-- keys are in the order of their bytes
abbrev pub key_cmp : ShortText → ShortText → Ordering
key_cmp = on (λ text. text.bytes) (slice_cmp nat_cmp)

-- the keys rise, so each is there once, and there is room for all pairs
pub record IsMap (entries : Entries) : Type 0 where
  pub rising : IsStrictlySortedBy key_cmp (keys_of entries.pairs)
  pub fits : length entries.pairs ≤ entries.room
  pub least_room : 1 ≤ entries.room
  pub greatest_room : entries.room ≤ most_elements

-- the value at a key
abbrev pub value_at : Pairs → ShortText → Option ShortText
value_at pairs k = lookup (is_at (key_cmp k)) pairs

-- the first key that is not below k
abbrev pub key_from : Pairs → ShortText → Option ShortText
key_from [] k = None
key_from (pair ∷ pairs) k = if is_lt (key_cmp pair.0 k) then key_from pairs k else Some pair.0

-- q is the least key not below k
pub record IsLeastFrom (pairs : Pairs) (k q : ShortText) : Type 0 where
  pub there : IsSome (value_at pairs q)
  pub not_below : is_lt (key_cmp q k) ≡ false
  pub least : (j : ShortText) → IsSome (value_at pairs j) → is_lt (key_cmp j k) ≡ false → is_lt (key_cmp j q) ≡ false

-- each key is below k
abbrev pub NoneFrom : Pairs → ShortText → Type 0
NoneFrom pairs k = (j : ShortText) → IsSome (value_at pairs j) → key_cmp j k ≡ Less

-- the pairs with the value v at k, in k's place in the order
abbrev pub pairs_put : Pairs → ShortText → ShortText → Pairs
pairs_put pairs k v = insert_entry key_cmp pairs k v

-- the pairs without k
abbrev pub pairs_without : Pairs → ShortText → Pairs
pairs_without pairs k = remove_entry (is_at (key_cmp k)) pairs

-- new has v at k, and at each other key what old has
abbrev pub Sets : Pairs → Pairs → ShortText → Option ShortText → Type 0
Sets old new k v = (q : ShortText) → value_at new q ≡ (if is_eq (key_cmp q k) then v else value_at old q)

abbrev pub has_room : Entries → Bool
has_room s = nat_lt (length s.pairs) s.room

-- the reply to a put, by the value that the key had and by whether there is room for one more pair
abbrev pub put_reply : Option ShortText → Bool → MapReply
put_reply (Some v) b = Old v
put_reply None true = New
put_reply None false = Full

abbrev pub del_reply : Option ShortText → MapReply
del_reply (Some v) = Old v
del_reply None = Absent

abbrev pub map_reply : Entries → MapOp → MapReply
map_reply s (Put k v) = put_reply (value_at s.pairs k) (has_room s)
map_reply s (Del k) = del_reply (value_at s.pairs k)

-- the pairs after an operation: a new key that there is no room for is not put
abbrev pub pairs_next : Entries → MapOp → Pairs
pairs_next s (Put k v) = if is_some (value_at s.pairs k) || has_room s then pairs_put s.pairs k v else s.pairs
pairs_next s (Del k) = pairs_without s.pairs k

abbrev pub map_next : Entries → MapOp → Entries
map_next s op = record { pairs = pairs_next s op; room = s.room }

abbrev pub value_answer : Option ShortText → MapReply
value_answer (Some v) = Value v
value_answer None = Absent

abbrev pub key_answer : Option ShortText → MapReply
key_answer (Some k) = Key k
key_answer None = Absent

abbrev pub map_answer : Entries → MapQuery → MapReply
map_answer s (Get k) = value_answer (value_at s.pairs k)
map_answer s (Next k) = key_answer (key_from s.pairs k)
map_answer s Count = Counted (length s.pairs)
