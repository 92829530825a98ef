use Rattle.std.proofs.Common.{ℕ, ◌<◌, ◌≤◌, ◌≡◌, Bool, true, false, ◌||◌, cond, [], length, refl, sym, arith}
use Rattle.std.proofs.lemmas.Bool.Decides.{nat_tests}
use Rattle.std.specs.Cmp.{IsTotalOrder}
use Rattle.std.specs.List.Sorted.{IsStrictlySortedBy}
use Rattle.std.specs.Map.{keys_of}
use Rattle.std.specs.Option.{is_some}
use Rattle.std.specs.BTreeMap.{is_at}
use Rattle.std.proofs.lemmas.Cmp.{on_total, nat_list_cmp_total}
use Rattle.onll_words.specs.Short.{ShortText}
use Rattle.onll_map.specs.declared.operation.MapOp.{MapOp}
use Rattle.onll_map.specs.declared.operation.MapOp.TheVariants.{Put, Del}
use Rattle.onll_map.specs.Map.{Entries, IsMap, key_cmp, value_at, has_room, pairs_put, map_next}
use Rattle.onll_map.proofs.Order.{rising-insert_entry, rising-remove_entry, length-insert_entry, length-insert_entry_found, length-remove_entry}

-- Keys are in a total order, and each operation keeps a map a map.

pub key_total : IsTotalOrder key_cmp
key_total = on_total (λ text. text.bytes) nat_list_cmp_total

pub empty_is_map : (n : ℕ) → 1 ≤ n → n ≤ 4096 → IsMap (record { pairs = []; room = n })
unfolding IsStrictlySortedBy
empty_is_map n h g = record { rising = tt; fits = omega arith; least_room = h; greatest_room = g }

put_fits : (s : Entries) (k v : ShortText) (found room : Bool) → found ≡ is_some (value_at s.pairs k) → room ≡ has_room s → IsMap s → length (cond (found || room) (pairs_put s.pairs k v) s.pairs) ≤ s.room
put_fits s k v true room e g h = omega (arith, length-insert_entry_found key_total k v s.pairs h.rising (sym e), h.fits)
put_fits s k v false true e g h = let lt : length s.pairs < s.room = grind (arith, nat_tests) in omega (arith, length-insert_entry key_total k v s.pairs, lt)
put_fits s k v false false e g h = h.fits

put_rises : (s : Entries) (k v : ShortText) (b : Bool) → IsMap s → IsStrictlySortedBy key_cmp (keys_of (cond b (pairs_put s.pairs k v) s.pairs))
put_rises s k v true h = rising-insert_entry key_total k v s.pairs h.rising
put_rises s k v false h = h.rising

pub IsMap-next : (s : Entries) (op : MapOp) → IsMap s → IsMap (map_next s op)
IsMap-next s (Put k v) h = record {
  rising = put_rises s k v (is_some (value_at s.pairs k) || has_room s) h;
  fits = put_fits s k v (is_some (value_at s.pairs k)) (has_room s) refl refl h;
  least_room = h.least_room;
  greatest_room = h.greatest_room;
}
IsMap-next s (Del k) h = record {
  rising = rising-remove_entry (is_at (key_cmp k)) key_cmp s.pairs h.rising;
  fits = omega (arith, length-remove_entry (is_at (key_cmp k)) s.pairs, h.fits);
  least_room = h.least_room;
  greatest_room = h.greatest_room;
}
