use Rattle.std.proofs.Common.{Bool, true, false, ◌≡◌, ◌≢◌, ◌||◌, ◌⊎◌, inl, inr, cond, Option, Some, None, MatchOption, refl, ap, sym, subst, ◌∙◌}
use mathlib.Core.Bool.{false≢true}
use Rattle.std.specs.declared.cmp.Ordering.{Ordering}
use Rattle.std.specs.declared.cmp.Ordering.TheVariants.{Less, Equal, Greater}
use Rattle.std.specs.Ordering.{is_eq, is_lt, ordering_reverse}
use Rattle.std.specs.Option.{is_some}
use Rattle.std.proofs.lemmas.Cmp.{tied_itself}
use Rattle.std.proofs.lemmas.Map.Text.{is_eq-slice_cmp}
use Rattle.onll_words.specs.Short.{ShortText}
use Rattle.onll_words.proofs.Packing.{same_short_tested}
use Rattle.onll_map.specs.declared.operation.MapOp.TheVariants.{Put, Del}
use Rattle.onll_map.specs.declared.operation.MapReply.{MapReply}
use Rattle.onll_map.specs.declared.operation.MapReply.TheVariants.{New, Old, Full, Absent, Key}
use Rattle.onll_map.specs.Map.{Entries, Pairs, IsMap, IsLeastFrom, NoneFrom, key_cmp, value_at, key_from, has_room, put_reply, pairs_put, map_next, map_reply, value_answer, key_answer}
use Rattle.onll_map.specs.Lookups.{PutLaw, DelLaw, OthersLaw, FullLaw, NextKeyLaw, NoNextLaw, KeptLaw}
use Rattle.onll_map.proofs.Maps.{key_total, IsMap-next}
use Rattle.onll_map.proofs.Sets.{put_sets, del_sets}
use Rattle.onll_map.proofs.Least.{key_from-least}

-- What look-ups answer.

-- keys that compare as equal are the same
same_key : (q k : ShortText) → is_eq (key_cmp q k) ≡ true → q ≡ k
same_key q k h = same_short_tested q k (sym h ∙ is_eq-slice_cmp q.bytes k.bytes)

-- and other keys don't
other_key : (q k : ShortText) (b : Bool) → b ≡ is_eq (key_cmp q k) → q ≢ k → b ≡ false
other_key q k true e h = absurd (h (same_key q k (sym e)))
other_key q k false e h = refl

own_key : (k : ShortText) → is_eq (key_cmp k k) ≡ true
own_key k = ap is_eq (tied_itself key_total k)

pub put_law : PutLaw
put_law s k v done =
    let sets = put_sets s (map_next s (Put k v)) k v (map_reply s (Put k v)) refl refl done k in
    ap value_answer (sets ∙ ap (λ b. cond b (Some v) (value_at s.pairs k)) (own_key k))

pub del_law : DelLaw
del_law s k h =
    let sets = del_sets s (map_next s (Del k)) k h refl k in
    ap value_answer (sets ∙ ap (λ b. cond b None (value_at s.pairs k)) (own_key k))

-- a put that is refused changes nothing
put_refused : (s : Entries) (k v : ShortText) (o : Option ShortText) (room : Bool) → put_reply o room ≡ Full → record { pairs = cond (is_some o || room) (pairs_put s.pairs k v) s.pairs; room = s.room } ≡ s
put_refused s k v (Some x) room h = cc
put_refused s k v None true h = cc
put_refused s k v None false h = refl

pub full_law : FullLaw
full_law s k v h = put_refused s k v (value_at s.pairs k) (has_room s) h

-- a put that is refused, or not
is_full : (r : MapReply) → (r ≡ Full) ⊎ (r ≢ Full)
is_full Full = inl refl
is_full New = inr (λ h. cc)
is_full (Old x) = inr (λ h. cc)
is_full reply = inr (λ h. cc)

module _ (s : Entries) (k q : ShortText) (other : q ≢ k) where
  unlike : is_eq (key_cmp q k) ≡ false
  unlike = other_key q k (is_eq (key_cmp q k)) refl other

  put_keeps : (v : ShortText) → value_at (map_next s (Put k v)).pairs q ≡ value_at s.pairs q
  put_keeps v = elim (is_full (map_reply s (Put k v))) [
    | inl full ↦ ap (λ (t : Entries). value_at t.pairs q) (full_law s k v full)
    | inr done ↦ put_sets s (map_next s (Put k v)) k v (map_reply s (Put k v)) refl refl done q ∙ ap (λ b. cond b (Some v) (value_at s.pairs q)) unlike
  ]

  del_keeps : IsMap s → value_at (map_next s (Del k)).pairs q ≡ value_at s.pairs q
  del_keeps h = del_sets s (map_next s (Del k)) k h refl q ∙ ap (λ b. cond b None (value_at s.pairs q)) unlike

pub others_law : OthersLaw
others_law s k v q h other = (ap value_answer (put_keeps s k q other v), ap value_answer (del_keeps s k q other h))

-- of two least keys neither is below the other
least_once : (pairs : Pairs) (k p q : ShortText) → IsLeastFrom pairs k p → IsLeastFrom pairs k q → p ≡ q
least_once pairs k p q f g = same_key p q (by (key_cmp p q) (g.least p f.there f.not_below) (sym (ap is_lt (key_total.antisymm q p)) ∙ f.least q g.there g.not_below))
  where
    by : (r : Ordering) → is_lt r ≡ false → is_lt (ordering_reverse r) ≡ false → is_eq r ≡ true
    by Less h e = absurd (false≢true (sym h))
    by Equal h e = refl
    by Greater h e = absurd (false≢true (sym e))

pub next_law : NextKeyLaw
next_law s k q h = (from (key_from s.pairs k) (key_from-least s.pairs k h.rising), to (key_from s.pairs k) (key_from-least s.pairs k h.rising))
  where
    from : (o : Option ShortText) → MatchOption o (NoneFrom s.pairs k) (IsLeastFrom s.pairs k) → key_answer o ≡ Key q → IsLeastFrom s.pairs k q
    from None least e = cc
    from (Some p) least e = let same : p ≡ q = cc in subst (IsLeastFrom s.pairs k) same least

    to : (o : Option ShortText) → MatchOption o (NoneFrom s.pairs k) (IsLeastFrom s.pairs k) → IsLeastFrom s.pairs k q → key_answer o ≡ Key q
    to None least g = absurd (false≢true (sym g.not_below ∙ ap is_lt (least q g.there)))
    to (Some p) least g = ap Key (least_once s.pairs k p q least g)

pub no_next_law : NoNextLaw
no_next_law s k h = (from (key_from s.pairs k) (key_from-least s.pairs k h.rising), to (key_from s.pairs k) (key_from-least s.pairs k h.rising))
  where
    from : (o : Option ShortText) → MatchOption o (NoneFrom s.pairs k) (IsLeastFrom s.pairs k) → key_answer o ≡ Absent → NoneFrom s.pairs k
    from None none e = none
    from (Some p) least e = cc

    to : (o : Option ShortText) → MatchOption o (NoneFrom s.pairs k) (IsLeastFrom s.pairs k) → NoneFrom s.pairs k → key_answer o ≡ Absent
    to None least none = refl
    to (Some p) least none = absurd (false≢true (sym least.not_below ∙ ap is_lt (none p least.there)))

pub kept_law : KeptLaw
kept_law = IsMap-next
