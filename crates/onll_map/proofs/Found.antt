use Rattle.std.proofs.Common.{ℕ, ◌+◌, ◌<◌, ◌≡◌, List, Result, Ok, Err, IfOk, IfErr, length, get_or, ap, sym, ◌∙◌, arith}
use Rattle.std.specs.declared.cmp.Ordering.{Ordering}
use Rattle.std.specs.declared.cmp.Ordering.TheVariants.{Less, Equal}
use Rattle.std.specs.Ordering.{ordering_reverse, is_lt}
use Rattle.std.specs.Cmp.{IsTotalOrder}
use Rattle.std.specs.List.Sorted.{IsSearchInRange, IsBinarySearchResult, IsSortedBy, IsStrictlySortedBy}
use Rattle.std.specs.Map.{keys_of}
use Rattle.std.proofs.Math.ListN.{get_or-map}
use Rattle.std.proofs.lemmas.Cmp.{alike_right}
use Rattle.std.proofs.lemmas.Map.Keys.{Less-from_sorted}
use Rattle.std.proofs.lemmas.Map.Entries.{length-keys_of}
use Rattle.std.proofs.lemmas.List.Sorted.{searchable_from_sorted}
use Rattle.onll_words.specs.Short.{ShortText}
use Rattle.onll_map.specs.Map.{Pairs, key_cmp}
use Rattle.onll_map.specs.Places.{IsPlace, IsGap}
use Rattle.onll_map.proofs.Maps.{key_total}

-- What a binary search among rising keys finds.

module _ {K X : Type 0} {R : K → K → Ordering} (o : IsTotalOrder R) (es : List (K × X)) (s : IsStrictlySortedBy R (keys_of es)) where
  key_rises : (i j : ℕ) (d : K × X) → i < j → j < length es → R (get_or es i d).0 (get_or es j d).0 ≡ Less
  key_rises i j d lt h =
      let at : (n : ℕ) → get_or (keys_of es) n d.0 ≡ (get_or es n d).0 = λ n. get_or-map (λ (e : K × X). e.0) es n d in
      sym (ap (λ q. R q (get_or (keys_of es) j d.0)) (at i) ∙ ap (R (get_or es i d).0) (at j))
      ∙ Less-from_sorted R (keys_of es) i j d.0 s lt (omega (arith, length-keys_of es))

  not_below : IsSortedBy (λ a b. is_lt (R a.0 b.0)) es
  not_below i d le lt =
      ap is_lt (o.antisymm (get_or es (i + 1) d).0 (get_or es i d).0 ∙ ap ordering_reverse (key_rises i (i + 1) d (omega arith) lt))

  below_here : (k : K) (i : ℕ) → i < length es → ((d : K × X) → R (get_or es i d).0 k ≡ Equal) → (j : ℕ) (d : K × X) → j < i → R (get_or es j d).0 k ≡ Less
  below_here k i h e j d lt = sym (alike_right o (get_or es i d).0 k (get_or es j d).0 (e d)) ∙ key_rises j i d lt h

-- what a search says
pub record Searched (pairs : Pairs) (k : ShortText) (r : Result ℕ ℕ) : Type 0 where
  pub found : IfOk r (IsPlace pairs k)
  pub absent : IfErr r (IsGap pairs k)

pub searched : (pairs : Pairs) (k : ShortText) (r : Result ℕ ℕ) → IsStrictlySortedBy key_cmp (keys_of pairs) → IsSearchInRange r (length pairs)
    → IsBinarySearchResult (λ pair. key_cmp pair.0 k) pairs r → Searched pairs k r
searched pairs k (Ok at) s h e = record {
  found = record { in_range = h; below = below_here key_total pairs s k at h e; here = e };
  absent = tt;
}
searched pairs k (Err at) s h e =
    let parts = e (searchable_from_sorted key_total (λ pair. pair.0) pairs k (not_below key_total pairs s)) in
    record {
      found = tt;
      absent = record { in_range = h; below = λ j d lt. parts.0 j d (omega arith) lt; above = parts.1 };
    }
