use Rattle.std.proofs.Common.{◌≡◌, true, false, cond, List, [], ◌∷◌, Option, Some, None, MatchOption, inl, inr, refl, ap, sym, subst, ◌∙◌}
use mathlib.Core.Bool.{false≢true}
use Rattle.std.specs.declared.cmp.Ordering.{Ordering}
use Rattle.std.specs.declared.cmp.Ordering.TheVariants.{Less, Equal, Greater}
use Rattle.std.specs.Ordering.{is_eq, is_lt, ordering_reverse}
use Rattle.std.specs.Cmp.{IsTotalOrder}
use Rattle.std.specs.Option.{is_some}
use Rattle.std.specs.List.{AllByRecursion}
use Rattle.std.specs.List.Sorted.{IsStrictlySortedBy}
use Rattle.std.specs.Map.{keys_of, lookup}
use Rattle.std.specs.BTreeMap.{is_at}
use Rattle.std.proofs.lemmas.Cmp.{alike_right, tied_itself}
use Rattle.onll_words.specs.Short.{ShortText}
use Rattle.onll_map.specs.Map.{Entries, Pairs, IsMap, key_cmp, value_at, key_from, IsLeastFrom, NoneFrom}
use Rattle.onll_map.proofs.Maps.{key_total}
use Rattle.onll_map.proofs.Order.{head_or_later}

-- The first key that is not below k is the least one.

-- a key that is there is above what all keys are above
above_found : {K X : Type 0} {R : K → K → Ordering} (o : IsTotalOrder R) (p q : K) (es : List (K × X)) → AllByRecursion (λ y. R p y ≡ Less) (keys_of es) → is_some (lookup (is_at (R q)) es) ≡ true → R p q ≡ Less
above_found o p q [] a h = absurd (false≢true h)
above_found {K} {X} {R} o p q (e ∷ es) a h = by (R q e.0) refl (above_found o p q es a.1)
  where
    by : (r : Ordering) → R q e.0 ≡ r → (is_some (lookup (is_at (R q)) es) ≡ true → R p q ≡ Less) → R p q ≡ Less
    by Less g rest = rest (sym (ap (λ r. is_some (cond (is_eq r) (Some e.1) (lookup (is_at (R q)) es))) g) ∙ h)
    by Equal g rest = alike_right o q e.0 p g ∙ a.0
    by Greater g rest = rest (sym (ap (λ r. is_some (cond (is_eq r) (Some e.1) (lookup (is_at (R q)) es))) g) ∙ h)

module _ (e : ShortText × ShortText) (es : Pairs) (k : ShortText) (s : IsStrictlySortedBy key_cmp (keys_of (e ∷ es))) where
  past_first : (q : ShortText) → is_some (value_at es q) ≡ true → is_some (value_at (e ∷ es) q) ≡ true
  unfolding IsStrictlySortedBy
  past_first q h =
      let over : key_cmp q e.0 ≡ Greater = key_total.antisymm q e.0 ∙ ap ordering_reverse (above_found key_total e.0 q es s.0 h) in
      ap (λ r. is_some (cond (is_eq r) (Some e.1) (value_at es q))) over ∙ h

  -- where the first key is below k
  later : key_cmp e.0 k ≡ Less → (o : Option ShortText) → MatchOption o (NoneFrom es k) (IsLeastFrom es k) → MatchOption o (NoneFrom (e ∷ es) k) (IsLeastFrom (e ∷ es) k)
  later g None h = λ j t. elim (head_or_later key_total j e es s t) [ inl q ↦ key_total.congr j e.0 k q ∙ g | inr p ↦ h j p.1 ]
  later g (Some q) h = record {
    there = past_first q h.there;
    not_below = h.not_below;
    least = λ j t n. elim (head_or_later key_total j e es s t) [
      | inl p ↦ absurd (false≢true (sym n ∙ ap is_lt (key_total.congr j e.0 k p ∙ g)))
      | inr p ↦ h.least j p.1 n
    ];
  }

  -- where it is not
  first : is_lt (key_cmp e.0 k) ≡ false → IsLeastFrom (e ∷ es) k e.0
  first g = record {
    there = ap (λ r. is_some (cond (is_eq r) (Some e.1) (value_at es e.0))) (tied_itself key_total e.0);
    not_below = g;
    least = λ j t n. elim (head_or_later key_total j e es s t) [ inl p ↦ ap is_lt p | inr p ↦ ap is_lt p.0 ];
  }

pub key_from-least : (pairs : Pairs) (k : ShortText) → IsStrictlySortedBy key_cmp (keys_of pairs) → MatchOption (key_from pairs k) (NoneFrom pairs k) (IsLeastFrom pairs k)
unfolding IsStrictlySortedBy
key_from-least [] k s = λ j t. absurd (false≢true t)
key_from-least (e ∷ es) k s = by (key_cmp e.0 k) refl (key_from-least es k s.1)
  where
    by : (r : Ordering) → key_cmp e.0 k ≡ r → MatchOption (key_from es k) (NoneFrom es k) (IsLeastFrom es k)
        → MatchOption (cond (is_lt r) (key_from es k) (Some e.0)) (NoneFrom (e ∷ es) k) (IsLeastFrom (e ∷ es) k)
    by Less g rest = later e es k s g (key_from es k) rest
    by Equal g rest = first e es k s (ap is_lt g)
    by Greater g rest = first e es k s (ap is_lt g)

-- the same of an answer
pub key_from_says : (s t : Entries) (k : ShortText) (o : Option ShortText) → s ≡ t → IsMap s → o ≡ key_from t.pairs k → MatchOption o (NoneFrom t.pairs k) (IsLeastFrom t.pairs k)
key_from_says s t k o same h e =
    subst (λ (p : Option ShortText). MatchOption p (NoneFrom t.pairs k) (IsLeastFrom t.pairs k)) (sym e) (key_from-least t.pairs k (subst IsMap same h).rising)
