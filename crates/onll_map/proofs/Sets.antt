use Rattle.std.proofs.Common.{◌≡◌, ◌≢◌, Bool, true, false, ◌||◌, cond, List, [], ◌∷◌, Option, Some, None, refl, ap, sym, ◌∙◌}
use Rattle.std.specs.declared.cmp.Ordering.{Ordering}
use Rattle.std.specs.declared.cmp.Ordering.TheVariants.{Less, Equal, Greater}
use Rattle.std.specs.Ordering.{is_eq, eq_by_cmp, ordering_reverse, match_ordering}
use Rattle.std.specs.Cmp.{IsTotalOrder, Equal-is}
use Rattle.std.specs.Option.{is_some}
use Rattle.std.specs.Map.{keys_of, lookup}
use Rattle.std.specs.BTreeMap.{insert_entry, is_at}
use Rattle.std.proofs.lemmas.Cmp.{alike_right, eq_by_cmp_equiv}
use Rattle.std.proofs.lemmas.Map.{lookup-remove_entry}
use Rattle.std.proofs.lemmas.Map.Keys.{IsDistinct-from_sorted}
use Rattle.onll_words.specs.Short.{ShortText}
use Rattle.onll_map.specs.declared.operation.MapOp.TheVariants.{Put, Del}
use Rattle.onll_map.specs.declared.operation.MapReply.{MapReply}
use Rattle.onll_map.specs.declared.operation.MapReply.TheVariants.{Full}
use Rattle.onll_map.specs.Map.{Entries, Pairs, IsMap, Sets, key_cmp, value_at, has_room, put_reply, map_reply, pairs_put, map_next}
use Rattle.onll_map.proofs.Maps.{key_total}

-- What each key has after a put and after a delete.

twice : {X : Type 0} (b : Bool) (x y z : X) → cond b x z ≡ cond b x (cond b y z)
twice true x y z = refl
twice false x y z = refl

module _ {K X : Type 0} {R : K → K → Ordering} (o : IsTotalOrder R) (k q : K) (v : X) where
  -- a pair before k's stays in front of it
  passed : (e : K × X) (r : Ordering) (x y : Option X) → R k e.0 ≡ Greater → R q e.0 ≡ r → x ≡ cond (is_eq (R q k)) (Some v) y
      → cond (is_eq r) (Some e.1) x ≡ cond (is_eq (R q k)) (Some v) (cond (is_eq r) (Some e.1) y)
  passed e Less x y g h rest = rest
  passed e Equal x y g h rest =
      let below : R q k ≡ Less = o.congr q e.0 k h ∙ o.antisymm e.0 k ∙ ap ordering_reverse g in
      sym (ap (λ t. cond (is_eq t) (Some v) (Some e.1)) below)
  passed e Greater x y g h rest = rest

  pub lookup-insert_entry : (es : List (K × X)) → lookup (is_at (R q)) (insert_entry R es k v) ≡ cond (is_eq (R q k)) (Some v) (lookup (is_at (R q)) es)
  lookup-insert_entry [] = refl
  lookup-insert_entry (e ∷ es) = by (R k e.0) refl (lookup-insert_entry es)
    where
      by : (r : Ordering) → R k e.0 ≡ r → lookup (is_at (R q)) (insert_entry R es k v) ≡ cond (is_eq (R q k)) (Some v) (lookup (is_at (R q)) es)
          → lookup (is_at (R q)) (match_ordering r ((k, v) ∷ e ∷ es) ((e.0, v) ∷ es) (e ∷ insert_entry R es k v)) ≡ cond (is_eq (R q k)) (Some v) (lookup (is_at (R q)) (e ∷ es))
      by Less g rest = refl
      by Equal g rest =
          twice (is_eq (R q e.0)) (Some v) (Some e.1) (lookup (is_at (R q)) es)
          ∙ sym (ap (λ t. cond (is_eq t) (Some v) (lookup (is_at (R q)) (e ∷ es))) (alike_right o k e.0 q g))
      by Greater g rest = passed e (R q e.0) (lookup (is_at (R q)) (insert_entry R es k v)) (lookup (is_at (R q)) es) g refl rest

-- a put that is not refused
put_done : (o : Option ShortText) (b : Bool) (r : MapReply) (x y : Pairs) → r ≡ put_reply o b → r ≢ Full → cond (is_some o || b) x y ≡ x
put_done (Some v) b r x y e h = refl
put_done None true r x y e h = refl
put_done None false r x y e h = absurd (h e)

pub put_sets : (s t : Entries) (k v : ShortText) (r : MapReply) → t ≡ map_next s (Put k v) → r ≡ map_reply s (Put k v) → r ≢ Full → Sets s.pairs t.pairs k (Some v)
put_sets s t k v r e f h q =
    let done = put_done (value_at s.pairs k) (has_room s) r (pairs_put s.pairs k v) s.pairs f h in
    ap (λ (u : Entries). value_at u.pairs q) e ∙ ap (λ (xs : Pairs). value_at xs q) done ∙ lookup-insert_entry key_total k q v s.pairs

alike_keys : (k x y : ShortText) → is_eq (key_cmp k x) ≡ true → is_eq (key_cmp k y) ≡ eq_by_cmp key_cmp x y
alike_keys k x y h = ap is_eq (key_total.congr k x y ((Equal-is (key_cmp k x)).0 h))

turned_test : (k q : ShortText) → is_eq (key_cmp k q) ≡ is_eq (key_cmp q k)
turned_test k q = (eq_by_cmp_equiv key_total).symm k q

pub del_sets : (s t : Entries) (k : ShortText) → IsMap s → t ≡ map_next s (Del k) → Sets s.pairs t.pairs k None
del_sets s t k h e q =
    ap (λ (u : Entries). value_at u.pairs q) e
    ∙ lookup-remove_entry (eq_by_cmp_equiv key_total) (is_at (key_cmp k)) (alike_keys k) q s.pairs (IsDistinct-from_sorted key_cmp (keys_of s.pairs) h.rising)
    ∙ ap (λ b. cond b None (value_at s.pairs q)) (turned_test k q)
