use Rattle.std.proofs.Common.{ℕ, zero, suc, ◌<◌, ◌≤◌, ◌≡◌, true, false, ◌||◌, cond, [], ◌∷◌, Some, None, length, get_or, set, refl, ap, sym, subst, ◌∙◌, arith}
use Rattle.std.specs.declared.cmp.Ordering.TheVariants.{Less}
use Rattle.std.specs.Ordering.{is_lt}
use Rattle.std.specs.Option.{is_some}
use Rattle.std.specs.List.{insert, remove}
use Rattle.std.proofs.lemmas.Bool.Decides.{nat_tests}
use Rattle.onll_words.specs.Short.{ShortText}
use Rattle.onll_map.specs.declared.operation.MapOp.{MapOp}
use Rattle.onll_map.specs.declared.operation.MapOp.TheVariants.{Put, Del}
use Rattle.onll_map.specs.declared.operation.MapReply.TheVariants.{New, Old, Full, Absent}
use Rattle.onll_map.specs.Map.{Entries, Pairs, IsMap, key_cmp, value_at, key_from, has_room, put_reply, del_reply, map_reply, pairs_put, pairs_next, map_next}
use Rattle.onll_map.specs.Places.{IsPlace, IsGap}
use Rattle.onll_map.proofs.Edits.{lookup-here, lookup-gap, insert_entry-here, insert_entry-gap, remove_entry-here, remove_entry-gap}
use Rattle.onll_map.proofs.Maps.{key_total, IsMap-next}

-- What each call does, by the place of its key.

pub value_at-place : (pairs : Pairs) (k : ShortText) (i : ℕ) (d : ShortText × ShortText) → IsPlace pairs k i → value_at pairs k ≡ Some (get_or pairs i d).1
value_at-place pairs k i d p = lookup-here key_total k pairs i d p.in_range p.below p.here

pub value_at-gap : (pairs : Pairs) (k : ShortText) (i : ℕ) → IsGap pairs k i → value_at pairs k ≡ None
value_at-gap pairs k i g = lookup-gap key_total k pairs i g.below g.above

-- all keys from place i on come after k, and those before it are below
pub key_from-at : (pairs : Pairs) (k : ShortText) (i : ℕ) (d : ShortText × ShortText) → i < length pairs → ((j : ℕ) (d : ShortText × ShortText) → j < i → key_cmp (get_or pairs j d).0 k ≡ Less)
    → is_lt (key_cmp (get_or pairs i d).0 k) ≡ false → key_from pairs k ≡ Some (get_or pairs i d).0
key_from-at [] k i d h b e = absurd (omega arith)
key_from-at (p ∷ ps) k zero d h b e = ap (λ t. cond t (key_from ps k) (Some p.0)) e
key_from-at (p ∷ ps) k (suc i) d h b e =
    ap (λ t. cond t (key_from ps k) (Some p.0)) (ap is_lt (b 0 p (omega arith)))
    ∙ key_from-at ps k i d (omega arith) (λ j d lt. b (suc j) d (omega arith)) e

pub key_from-none : (pairs : Pairs) (k : ShortText) → ((j : ℕ) (d : ShortText × ShortText) → j < length pairs → key_cmp (get_or pairs j d).0 k ≡ Less) → key_from pairs k ≡ None
key_from-none [] k b = refl
key_from-none (p ∷ ps) k b =
    ap (λ t. cond t (key_from ps k) (Some p.0)) (ap is_lt (b 0 p (omega arith)))
    ∙ key_from-none ps k (λ j d lt. b (suc j) d (omega arith))

pub key_from-place : (pairs : Pairs) (k : ShortText) (i : ℕ) (d : ShortText × ShortText) → IsPlace pairs k i → key_from pairs k ≡ Some (get_or pairs i d).0
key_from-place pairs k i d p = key_from-at pairs k i d p.in_range p.below (ap is_lt (p.here d))

pub key_from-gap : (pairs : Pairs) (k : ShortText) (i : ℕ) (d : ShortText × ShortText) → IsGap pairs k i → i < length pairs → key_from pairs k ≡ Some (get_or pairs i d).0
key_from-gap pairs k i d g h = key_from-at pairs k i d h g.below (ap is_lt (g.above i d (omega arith) h))

pub key_from-past : (pairs : Pairs) (k : ShortText) (i : ℕ) → IsGap pairs k i → length pairs ≤ i → key_from pairs k ≡ None
key_from-past pairs k i g h = key_from-none pairs k (λ j d lt. g.below j d (omega arith))

pub room_for : (s : Entries) → length s.pairs < s.room → has_room s ≡ true
room_for s h = grind (arith, nat_tests)

no_room_for : (s : Entries) → length s.pairs ≡ s.room → has_room s ≡ false
no_room_for s h = grind (arith, nat_tests)

-- s is the state t as the fields give it
module _ (s t : Entries) (same : s ≡ t) (k : ShortText) (i : ℕ) where
  place_in : IsPlace t.pairs k i → IsPlace s.pairs k i
  place_in p = subst (λ (u : Entries). IsPlace u.pairs k i) (sym same) p

  gap_in : IsGap t.pairs k i → IsGap s.pairs k i
  gap_in g = subst (λ (u : Entries). IsGap u.pairs k i) (sym same) g

  value_is : (e : ShortText × ShortText) → IsPlace t.pairs k i → e ≡ get_or s.pairs i e → value_at s.pairs k ≡ Some e.1
  value_is e p h = value_at-place s.pairs k i e (place_in p) ∙ sym (ap (λ (x : ShortText × ShortText). Some x.1) h)

  none_is : IsGap t.pairs k i → value_at s.pairs k ≡ None
  none_is g = value_at-gap s.pairs k i (gap_in g)

  -- a put over the pair at its place
  pub put-place : (v : ShortText) (e : ShortText × ShortText) → IsPlace t.pairs k i → e ≡ get_or s.pairs i e → record { pairs = set s.pairs i (e.0, v); room = s.room } ≡ map_next t (Put k v)
  put-place v e p h =
      let q = place_in p in
      let written = insert_entry-here key_total k s.pairs i v e q.in_range q.below q.here in
      let done : set s.pairs i (e.0, v) ≡ pairs_next s (Put k v) =
      ap (λ (x : ShortText × ShortText). set s.pairs i (x.0, v)) h ∙ sym written
      ∙ sym (ap (λ o. cond (is_some o || has_room s) (pairs_put s.pairs k v) s.pairs) (value_is e p h)) in
      ap (λ (xs : Pairs). record { pairs = xs; room = s.room }) done ∙ ap (λ u. map_next u (Put k v)) same

  pub put_reply-place : (v : ShortText) (e : ShortText × ShortText) → IsPlace t.pairs k i → e ≡ get_or s.pairs i e → Old e.1 ≡ map_reply t (Put k v)
  put_reply-place v e p h = sym (ap (λ o. put_reply o (has_room s)) (value_is e p h)) ∙ ap (λ u. map_reply u (Put k v)) same

  -- a put into a gap
  pub put-gap : (v : ShortText) (xs : Pairs) → IsGap t.pairs k i → length s.pairs < s.room → xs ≡ insert s.pairs i (k, v) → record { pairs = xs; room = s.room } ≡ map_next t (Put k v)
  put-gap v xs g h e =
      let q = gap_in g in
      let put = insert_entry-gap key_total k s.pairs i v q.in_range q.below q.above in
      let done : xs ≡ pairs_next s (Put k v) =
      e ∙ sym put
      ∙ sym (ap (λ o. cond (is_some o || has_room s) (pairs_put s.pairs k v) s.pairs) (none_is g) ∙ ap (λ b. cond b (pairs_put s.pairs k v) s.pairs) (room_for s h)) in
      ap (λ (ys : Pairs). record { pairs = ys; room = s.room }) done ∙ ap (λ u. map_next u (Put k v)) same

  pub put_reply-gap : (v : ShortText) → IsGap t.pairs k i → length s.pairs < s.room → New ≡ map_reply t (Put k v)
  put_reply-gap v g h = sym (ap (λ o. put_reply o (has_room s)) (none_is g) ∙ ap (put_reply None) (room_for s h)) ∙ ap (λ u. map_reply u (Put k v)) same

  -- a put that there is no room for
  pub put-full : (v : ShortText) → IsGap t.pairs k i → length s.pairs ≡ s.room → t ≡ map_next t (Put k v)
  put-full v g h =
      let done : s.pairs ≡ pairs_next s (Put k v) =
      sym (ap (λ o. cond (is_some o || has_room s) (pairs_put s.pairs k v) s.pairs) (none_is g) ∙ ap (λ b. cond b (pairs_put s.pairs k v) s.pairs) (no_room_for s h)) in
      sym same ∙ ap (λ (xs : Pairs). record { pairs = xs; room = s.room }) done ∙ ap (λ u. map_next u (Put k v)) same

  pub put_reply-full : (v : ShortText) → IsGap t.pairs k i → length s.pairs ≡ s.room → Full ≡ map_reply t (Put k v)
  put_reply-full v g h = sym (ap (λ o. put_reply o (has_room s)) (none_is g) ∙ ap (put_reply None) (no_room_for s h)) ∙ ap (λ u. map_reply u (Put k v)) same

  pub del-place : (xs : Pairs) → IsPlace t.pairs k i → xs ≡ remove s.pairs i → record { pairs = xs; room = s.room } ≡ map_next t (Del k)
  del-place xs p e =
      let q = place_in p in
      ap (λ (ys : Pairs). record { pairs = ys; room = s.room }) (e ∙ sym (remove_entry-here key_total k s.pairs i q.in_range q.below q.here))
      ∙ ap (λ u. map_next u (Del k)) same

  pub del_reply-place : (e : ShortText × ShortText) → IsPlace t.pairs k i → e ≡ get_or s.pairs i e → Old e.1 ≡ map_reply t (Del k)
  del_reply-place e p h = sym (ap del_reply (value_is e p h)) ∙ ap (λ u. map_reply u (Del k)) same

module _ (s : Entries) (k : ShortText) (i : ℕ) where
  pub del-gap : IsGap s.pairs k i → s ≡ map_next s (Del k)
  del-gap g = ap (λ (xs : Pairs). record { pairs = xs; room = s.room }) (sym (remove_entry-gap key_total k s.pairs i g.below g.above))

  pub del_reply-gap : IsGap s.pairs k i → Absent ≡ map_reply s (Del k)
  del_reply-gap g = sym (ap del_reply (value_at-gap s.pairs k i g))

-- what an operation leaves of a map is a map
pub still_map : (s t u : Entries) (op : MapOp) → s ≡ t → IsMap s → u ≡ map_next t op → IsMap u
still_map s t u op same h e = subst IsMap (sym e) (IsMap-next t op (subst IsMap same h))
