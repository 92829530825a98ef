use Rattle.std.proofs.Common.{◌+◌, ◌≤◌, ◌≡◌, Bool, true, false, cond, List, [], ◌∷◌, Some, length, ◌⊎◌, inl, inr, refl, ap, sym, ◌∙◌, arith}
use mathlib.Core.Bool.{false≢true}
use Rattle.std.specs.declared.cmp.Ordering.{Ordering}
use Rattle.std.specs.declared.cmp.Ordering.TheVariants.{Less, Equal, Greater}
use Rattle.std.specs.Ordering.{is_eq, ordering_reverse, match_ordering}
use Rattle.std.specs.Cmp.{IsTotalOrder}
use Rattle.std.specs.List.{AllByRecursion}
use Rattle.std.specs.List.Sorted.{IsStrictlySortedBy}
use Rattle.std.specs.Map.{keys_of, lookup, remove_entry}
use Rattle.std.specs.Option.{is_some}
use Rattle.std.specs.BTreeMap.{insert_entry, is_at}
use Rattle.std.proofs.lemmas.Map.{lookup-none}
use Rattle.std.proofs.lemmas.Map.Entries.{none_below_head}

-- Keys that rise still do after an insert and a removal.

module _ {K : Type 0} {R : K → K → Ordering} (o : IsTotalOrder R) (k : K) where
  above_all : (q : K) (ks : List K) → R k q ≡ Less → AllByRecursion (λ y. R q y ≡ Less) ks → AllByRecursion (λ y. R k y ≡ Less) ks
  above_all q [] h a = tt
  above_all q (y ∷ ks) h a = (o.trans k q y h a.0, above_all q ks h a.1)

module _ {K X : Type 0} (test : K → Bool) where
  all-remove_entry : (P : K → Type 0) (es : List (K × X)) → AllByRecursion P (keys_of es) → AllByRecursion P (keys_of (remove_entry test es))
  all-remove_entry P [] a = tt
  all-remove_entry P (e ∷ es) a = by (test e.0) (all-remove_entry P es a.1)
    where
      by : (b : Bool) → AllByRecursion P (keys_of (remove_entry test es)) → AllByRecursion P (keys_of (cond b es (e ∷ remove_entry test es)))
      by true h = a.1
      by false h = (a.0, h)

  pub rising-remove_entry : (R : K → K → Ordering) (es : List (K × X)) → IsStrictlySortedBy R (keys_of es) → IsStrictlySortedBy R (keys_of (remove_entry test es))
  unfolding IsStrictlySortedBy
  rising-remove_entry R [] s = tt
  rising-remove_entry R (e ∷ es) s = by (test e.0) (rising-remove_entry R es s.1)
    where
      by : (b : Bool) → IsStrictlySortedBy R (keys_of (remove_entry test es)) → IsStrictlySortedBy R (keys_of (cond b es (e ∷ remove_entry test es)))
      by true h = s.1
      by false h = (all-remove_entry (λ y. R e.0 y ≡ Less) es s.0, h)

  pub length-remove_entry : (es : List (K × X)) → length (remove_entry test es) ≤ length es
  length-remove_entry [] = omega arith
  length-remove_entry (e ∷ es) = by (test e.0) (length-remove_entry es)
    where
      by : (b : Bool) → length (remove_entry test es) ≤ length es → length (cond b es (e ∷ remove_entry test es)) ≤ length (e ∷ es)
      by true h = omega arith
      by false h = omega arith

module _ {K X : Type 0} {R : K → K → Ordering} (o : IsTotalOrder R) (k : K) (v : X) where
  all-insert_entry : (P : K → Type 0) (es : List (K × X)) → AllByRecursion P (keys_of es) → P k → AllByRecursion P (keys_of (insert_entry R es k v))
  all-insert_entry P [] a p = (p, tt)
  all-insert_entry P (e ∷ es) a p = by (R k e.0) (all-insert_entry P es a.1 p)
    where
      by : (r : Ordering) → AllByRecursion P (keys_of (insert_entry R es k v)) → AllByRecursion P (keys_of (match_ordering r ((k, v) ∷ e ∷ es) ((e.0, v) ∷ es) (e ∷ insert_entry R es k v)))
      by Less h = (p, a)
      by Equal h = a
      by Greater h = (a.0, h)

  pub rising-insert_entry : (es : List (K × X)) → IsStrictlySortedBy R (keys_of es) → IsStrictlySortedBy R (keys_of (insert_entry R es k v))
  unfolding IsStrictlySortedBy
  rising-insert_entry [] s = (tt, tt)
  rising-insert_entry (e ∷ es) s = by (R k e.0) refl (rising-insert_entry es s.1)
    where
      by : (r : Ordering) → R k e.0 ≡ r → IsStrictlySortedBy R (keys_of (insert_entry R es k v)) → IsStrictlySortedBy R (keys_of (match_ordering r ((k, v) ∷ e ∷ es) ((e.0, v) ∷ es) (e ∷ insert_entry R es k v)))
      by Less h rest = ((h, above_all o k e.0 (keys_of es) h s.0), s)
      by Equal h rest = s
      by Greater h rest = (all-insert_entry (λ y. R e.0 y ≡ Less) es s.0 (o.antisymm e.0 k ∙ ap ordering_reverse h), rest)

  -- a put makes at most one more pair
  pub length-insert_entry : (es : List (K × X)) → length (insert_entry R es k v) ≤ length es + 1
  length-insert_entry [] = omega arith
  length-insert_entry (e ∷ es) = by (R k e.0) (length-insert_entry es)
    where
      by : (r : Ordering) → length (insert_entry R es k v) ≤ length es + 1 → length (match_ordering r ((k, v) ∷ e ∷ es) ((e.0, v) ∷ es) (e ∷ insert_entry R es k v)) ≤ length (e ∷ es) + 1
      by Less h = omega arith
      by Equal h = omega arith
      by Greater h = omega arith

module _ {K X : Type 0} {R : K → K → Ordering} (o : IsTotalOrder R) (k : K) where
  -- a key that is there is the first, or is above it
  pub head_or_later : (e : K × X) (es : List (K × X)) → IsStrictlySortedBy R (keys_of (e ∷ es)) → is_some (lookup (is_at (R k)) (e ∷ es)) ≡ true
      → (R k e.0 ≡ Equal) ⊎ ((R k e.0 ≡ Greater) × (is_some (lookup (is_at (R k)) es) ≡ true))
  head_or_later e es s h = by (R k e.0) refl
    where
      by : (r : Ordering) → R k e.0 ≡ r → (R k e.0 ≡ Equal) ⊎ ((R k e.0 ≡ Greater) × (is_some (lookup (is_at (R k)) es) ≡ true))
      by Less g = let none = ap is_some (lookup-none (is_at (R k)) (e ∷ es) (none_below_head o k e es s g)) in absurd (false≢true (sym none ∙ h))
      by Equal g = inl g
      by Greater g = inr (g, sym (ap (λ r. is_some (cond (is_eq r) (Some e.1) (lookup (is_at (R k)) es))) g) ∙ h)

  -- a key that is there makes no more pairs
  pub length-insert_entry_found : (v : X) (es : List (K × X)) → IsStrictlySortedBy R (keys_of es) → is_some (lookup (is_at (R k)) es) ≡ true → length (insert_entry R es k v) ≡ length es
  unfolding IsStrictlySortedBy
  length-insert_entry_found v [] s h = cc
  length-insert_entry_found v (e ∷ es) s h =
      let put = λ (r : Ordering). length (match_ordering r ((k, v) ∷ e ∷ es) ((e.0, v) ∷ es) (e ∷ insert_entry R es k v)) in
      elim (head_or_later e es s h) [
        | inl g ↦ ap put g
        | inr g ↦ let rest = length-insert_entry_found v es s.1 g.1 in omega (arith, ap put g.0, rest)
      ]
