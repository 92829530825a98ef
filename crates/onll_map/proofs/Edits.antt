use Rattle.std.proofs.Common.{ℕ, zero, suc, ◌<◌, ◌≤◌, ◌≡◌, cond, List, [], ◌∷◌, Some, None, length, get_or, set, refl, ap, ◌∙◌, arith}
use Rattle.std.specs.declared.cmp.Ordering.{Ordering}
use Rattle.std.specs.declared.cmp.Ordering.TheVariants.{Less, Equal, Greater}
use Rattle.std.specs.Ordering.{is_eq, ordering_reverse, match_ordering}
use Rattle.std.specs.Cmp.{IsTotalOrder}
use Rattle.std.specs.List.{insert, remove}
use Rattle.std.specs.Map.{lookup, remove_entry}
use Rattle.std.specs.BTreeMap.{insert_entry, is_at}

-- What a look-up, an insert and a removal do in pairs where it is known at which place the key stands.

turned : {K : Type 0} {R : K → K → Ordering} → IsTotalOrder R → (k q : K) (r : Ordering) → R q k ≡ r → R k q ≡ ordering_reverse r
turned o k q r h = o.antisymm k q ∙ ap ordering_reverse h

module _ {K X : Type 0} {R : K → K → Ordering} (o : IsTotalOrder R) (k : K) where
  -- the first i keys are below k
  abbrev pub Below : List (K × X) → ℕ → Type 0
  Below es i = (j : ℕ) (d : K × X) → j < i → R (get_or es j d).0 k ≡ Less

  -- the keys from i on are above k
  abbrev pub Above : List (K × X) → ℕ → Type 0
  Above es i = (j : ℕ) (d : K × X) → i ≤ j → j < length es → R (get_or es j d).0 k ≡ Greater

  -- the key at i is k
  abbrev pub Here : List (K × X) → ℕ → Type 0
  Here es i = (d : K × X) → R (get_or es i d).0 k ≡ Equal

  below_tail : (e : K × X) (es : List (K × X)) (i : ℕ) → Below (e ∷ es) (suc i) → Below es i
  below_tail e es i h j d lt = h (suc j) d (omega arith)

  above_tail : (e : K × X) (es : List (K × X)) (i : ℕ) → Above (e ∷ es) (suc i) → Above es i
  above_tail e es i h j d le lt = h (suc j) d (omega arith) (omega arith)

  above_rest : (e : K × X) (es : List (K × X)) → Above (e ∷ es) 0 → Above es 0
  above_rest e es h j d le lt = h (suc j) d (omega arith) (omega arith)

  none_below : (es : List (K × X)) → Below es 0
  none_below es j d lt = absurd (omega arith)

  pub lookup-here : (es : List (K × X)) (i : ℕ) (d : K × X) → i < length es → Below es i → Here es i → lookup (is_at (R k)) es ≡ Some (get_or es i d).1
  lookup-here [] i d lt b h = absurd (omega arith)
  lookup-here (e ∷ es) zero d lt b h = ap (λ r. cond (is_eq r) (Some e.1) (lookup (is_at (R k)) es)) (turned o k e.0 Equal (h e))
  lookup-here (e ∷ es) (suc i) d lt b h =
      ap (λ r. cond (is_eq r) (Some e.1) (lookup (is_at (R k)) es)) (turned o k e.0 Less (b 0 e (omega arith)))
      ∙ lookup-here es i d (omega arith) (below_tail e es i b) h

  pub lookup-gap : (es : List (K × X)) (i : ℕ) → Below es i → Above es i → lookup (is_at (R k)) es ≡ None
  lookup-gap [] i b a = refl
  lookup-gap (e ∷ es) zero b a =
      ap (λ r. cond (is_eq r) (Some e.1) (lookup (is_at (R k)) es)) (turned o k e.0 Greater (a 0 e (omega arith) (omega arith)))
      ∙ lookup-gap es 0 (none_below es) (above_rest e es a)
  lookup-gap (e ∷ es) (suc i) b a =
      ap (λ r. cond (is_eq r) (Some e.1) (lookup (is_at (R k)) es)) (turned o k e.0 Less (b 0 e (omega arith)))
      ∙ lookup-gap es i (below_tail e es i b) (above_tail e es i a)

  pub insert_entry-here : (es : List (K × X)) (i : ℕ) (v : X) (d : K × X) → i < length es → Below es i → Here es i → insert_entry R es k v ≡ set es i ((get_or es i d).0, v)
  insert_entry-here [] i v d lt b h = absurd (omega arith)
  insert_entry-here (e ∷ es) zero v d lt b h = ap (λ r. match_ordering r ((k, v) ∷ e ∷ es) ((e.0, v) ∷ es) (e ∷ insert_entry R es k v)) (turned o k e.0 Equal (h e))
  insert_entry-here (e ∷ es) (suc i) v d lt b h =
      ap (λ r. match_ordering r ((k, v) ∷ e ∷ es) ((e.0, v) ∷ es) (e ∷ insert_entry R es k v)) (turned o k e.0 Less (b 0 e (omega arith)))
      ∙ ap (λ t. e ∷ t) (insert_entry-here es i v d (omega arith) (below_tail e es i b) h)

  pub insert_entry-gap : (es : List (K × X)) (i : ℕ) (v : X) → i ≤ length es → Below es i → Above es i → insert_entry R es k v ≡ insert es i (k, v)
  insert_entry-gap [] zero v le b a = refl
  insert_entry-gap [] (suc i) v le b a = absurd (omega arith)
  insert_entry-gap (e ∷ es) zero v le b a = ap (λ r. match_ordering r ((k, v) ∷ e ∷ es) ((e.0, v) ∷ es) (e ∷ insert_entry R es k v)) (turned o k e.0 Greater (a 0 e (omega arith) (omega arith)))
  insert_entry-gap (e ∷ es) (suc i) v le b a =
      ap (λ r. match_ordering r ((k, v) ∷ e ∷ es) ((e.0, v) ∷ es) (e ∷ insert_entry R es k v)) (turned o k e.0 Less (b 0 e (omega arith)))
      ∙ ap (λ t. e ∷ t) (insert_entry-gap es i v (omega arith) (below_tail e es i b) (above_tail e es i a))

  pub remove_entry-here : (es : List (K × X)) (i : ℕ) → i < length es → Below es i → Here es i → remove_entry (is_at (R k)) es ≡ remove es i
  remove_entry-here [] i lt b h = absurd (omega arith)
  remove_entry-here (e ∷ es) zero lt b h = ap (λ r. cond (is_eq r) es (e ∷ remove_entry (is_at (R k)) es)) (turned o k e.0 Equal (h e))
  remove_entry-here (e ∷ es) (suc i) lt b h =
      ap (λ r. cond (is_eq r) es (e ∷ remove_entry (is_at (R k)) es)) (turned o k e.0 Less (b 0 e (omega arith)))
      ∙ ap (λ t. e ∷ t) (remove_entry-here es i (omega arith) (below_tail e es i b) h)

  pub remove_entry-gap : (es : List (K × X)) (i : ℕ) → Below es i → Above es i → remove_entry (is_at (R k)) es ≡ es
  remove_entry-gap [] i b a = refl
  remove_entry-gap (e ∷ es) zero b a =
      ap (λ r. cond (is_eq r) es (e ∷ remove_entry (is_at (R k)) es)) (turned o k e.0 Greater (a 0 e (omega arith) (omega arith)))
      ∙ ap (λ t. e ∷ t) (remove_entry-gap es 0 (none_below es) (above_rest e es a))
  remove_entry-gap (e ∷ es) (suc i) b a =
      ap (λ r. cond (is_eq r) es (e ∷ remove_entry (is_at (R k)) es)) (turned o k e.0 Less (b 0 e (omega arith)))
      ∙ ap (λ t. e ∷ t) (remove_entry-gap es i (below_tail e es i b) (above_tail e es i a))
