-- One kind more of the list of kinds is looked at.

use Rattle.std.proofs.Common.{ℕ, Bool, false, List, [], ◌∷◌, ◌≡◌, ◌==◌, ◌+◌, ◌<◌, cond, length, map, drop, slice_index_or, Result, Ok, sym, ap, ◌∙◌, arith}
use Rattle.std.specs.Str.{bytes_eq}
use Rattle.std.proofs.lemmas.List.{drop_more}
use Rattle.std.proofs.lemmas.Bool.Decides.{nat_tests}
use Rattle.onll_text.specs.declared.any_object.Kind.{Kind}
use Rattle.onll_text.specs.declared.reason.Reason.{Reason}
use Rattle.onll_text.specs.Init.{kind_in, name_in}

module _ {K : Type 0} (f : K → Kind × List ℕ) (items : List K) (i : ℕ) (other : K) (within : i < length items) where
  -- its name is not the word
  pub kind_in_more : (word : List ℕ) (is : Bool) → is ≡ bytes_eq word (f (slice_index_or items i other)).1 → is ≡ false
      → kind_in (map f (drop (i + 1) items)) word ≡ kind_in (map f (drop i items)) word
  kind_in_more word is tested differs =
      let k = f (slice_index_or items i other) in
      let found : Result Kind Reason = Ok k.0 in
      sym (ap (λ (l : List K). kind_in (map f l) word) (drop_more items i other within)
      ∙ ap (λ b. cond b found (kind_in (map f (drop (i + 1) items)) word)) (sym tested ∙ differs))

  name_in_further : (next code : ℕ) → (code ≡ next → ⊥)
      → name_in (map f (drop (i + 1) items)) (next + 1) code ≡ name_in (map f (drop i items)) next code
  name_in_further next code other_code =
      let k = f (slice_index_or items i other) in
      let differs : (code == next) ≡ false = grind (arith, nat_tests) in
      sym (ap (λ (l : List K). name_in (map f l) next code) (drop_more items i other within)
      ∙ ap (λ b. cond b k.1 (name_in (map f (drop (i + 1) items)) (next + 1) code)) differs)

-- its code is not this one
pub name_in_more : {K : Type 0} (f : K → Kind × List ℕ) (items : List K) (i : ℕ) → i < length items → (next code : ℕ) → (code ≡ next → ⊥)
    → name_in (map f (drop (i + 1) items)) (next + 1) code ≡ name_in (map f (drop i items)) next code
name_in_more f [] i within next code other_code = absurd (omega (arith, within))
name_in_more f (k ∷ items) i within next code other_code = name_in_further f (k ∷ items) i k within next code other_code
