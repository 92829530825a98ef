use mathlib.Core.List.{append-nil}
use Rattle.std.proofs.Common.{ℕ, ◌<◌, ◌≡◌, true, ◌||◌, cond, List, [], ◌∷◌, ◌++◌, Some, None, length, refl, ap, sym, subst, ◌∙◌, append_assoc, arith}
use Rattle.std.specs.declared.cmp.Ordering.{Ordering}
use Rattle.std.specs.declared.cmp.Ordering.TheVariants.{Less, Greater}
use Rattle.std.specs.Ordering.{is_eq, ordering_reverse, match_ordering}
use Rattle.std.specs.Cmp.{IsTotalOrder}
use Rattle.std.specs.Option.{is_some}
use Rattle.std.specs.List.{AllByRecursion}
use Rattle.std.specs.List.Sorted.{IsStrictlySortedBy}
use Rattle.std.specs.Map.{keys_of, lookup}
use Rattle.std.specs.BTreeMap.{insert_entry, is_at}
use Rattle.std.proofs.lemmas.List.{length-append}
use Rattle.onll_words.specs.Short.{ShortText}
use Rattle.onll_map.specs.declared.operation.MapOp.TheVariants.{Put}
use Rattle.onll_map.specs.declared.operation.MapReply.TheVariants.{New}
use Rattle.onll_map.specs.Map.{Entries, Pairs, IsMap, value_at, has_room, put_reply, map_reply, pairs_put, map_next}
use Rattle.onll_map.proofs.Maps.{key_total}
use Rattle.onll_map.proofs.Steps.{room_for}

-- Pairs that are put in the order of their keys come one after another.

-- the state after these pairs were put in turn
abbrev puts : Entries → Pairs → Entries
puts s [] = s
puts s (pair ∷ pairs) = puts (map_next s (Put pair.0 pair.1)) pairs

module _ {K X : Type 0} {R : K → K → Ordering} (o : IsTotalOrder R) (k : K) (v : X) (rest : List (K × X)) where
  above_first : (e : K × X) (es : List (K × X)) → AllByRecursion (λ y. R e.0 y ≡ Less) (keys_of (es ++ (k, v) ∷ rest)) → R e.0 k ≡ Less
  above_first e [] a = a.0
  above_first e (f ∷ es) a = above_first e es a.1

  over : (e : K × X) (es : List (K × X)) → AllByRecursion (λ y. R e.0 y ≡ Less) (keys_of (es ++ (k, v) ∷ rest)) → R k e.0 ≡ Greater
  over e es a = o.antisymm k e.0 ∙ ap ordering_reverse (above_first e es a)

  -- a key above all others is not there
  pub lookup-in_order : (es : List (K × X)) → IsStrictlySortedBy R (keys_of (es ++ (k, v) ∷ rest)) → lookup (is_at (R k)) es ≡ None
  unfolding IsStrictlySortedBy
  lookup-in_order [] s = refl
  lookup-in_order (e ∷ es) s = ap (λ r. cond (is_eq r) (Some e.1) (lookup (is_at (R k)) es)) (over e es s.0) ∙ lookup-in_order es s.1

  -- its pair comes last
  pub insert_entry-in_order : (es : List (K × X)) → IsStrictlySortedBy R (keys_of (es ++ (k, v) ∷ rest)) → insert_entry R es k v ≡ es ++ (k, v) ∷ []
  unfolding IsStrictlySortedBy
  insert_entry-in_order [] s = refl
  insert_entry-in_order (e ∷ es) s =
      ap (λ r. match_ordering r ((k, v) ∷ e ∷ es) ((e.0, v) ∷ es) (e ∷ insert_entry R es k v)) (over e es s.0) ∙ ap (λ t. e ∷ t) (insert_entry-in_order es s.1)

module _ (done rest : Pairs) (k v : ShortText) (room : ℕ) (whole : IsMap (record { pairs = done ++ (k, v) ∷ rest; room = room })) where
  pub value_at-in_order : value_at done k ≡ None
  value_at-in_order = lookup-in_order key_total k v rest done whole.rising

  pub has_room-in_order : has_room (record { pairs = done; room = room }) ≡ true
  has_room-in_order =
      let fits : length done < room = omega (arith, whole.fits, length-append done ((k, v) ∷ rest)) in
      room_for (record { pairs = done; room = room }) fits

  pub map_reply-in_order : map_reply (record { pairs = done; room = room }) (Put k v) ≡ New
  map_reply-in_order = ap (λ o. put_reply o (has_room (record { pairs = done; room = room }))) value_at-in_order ∙ ap (put_reply None) has_room-in_order

  pub map_next-in_order : map_next (record { pairs = done; room = room }) (Put k v) ≡ record { pairs = done ++ (k, v) ∷ []; room = room }
  map_next-in_order =
      let done_at : cond (is_some (value_at done k) || has_room (record { pairs = done; room = room })) (pairs_put done k v) done ≡ done ++ (k, v) ∷ [] =
      ap (λ o. cond (is_some o || has_room (record { pairs = done; room = room })) (pairs_put done k v) done) value_at-in_order
      ∙ ap (λ b. cond b (pairs_put done k v) done) has_room-in_order
      ∙ insert_entry-in_order key_total k v rest done whole.rising in
      ap (λ (xs : Pairs). record { pairs = xs; room = room }) done_at

puts_rest : (done rest : Pairs) (room : ℕ) → IsMap (record { pairs = done ++ rest; room = room }) → puts (record { pairs = done; room = room }) rest ≡ record { pairs = done ++ rest; room = room }
puts_rest done [] room h = ap (λ (xs : Pairs). record { pairs = xs; room = room }) (sym (append-nil done))
puts_rest done (p ∷ ps) room h =
    let regrouped = append_assoc done (p ∷ []) ps in
    ap (λ (s : Entries). puts s ps) (map_next-in_order done ps p.0 p.1 room h)
    ∙ puts_rest (done ++ p ∷ []) ps room (subst (λ (xs : Pairs). IsMap (record { pairs = xs; room = room })) (sym regrouped) h)
    ∙ ap (λ (xs : Pairs). record { pairs = xs; room = room }) regrouped
