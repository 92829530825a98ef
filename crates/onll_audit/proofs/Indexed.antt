-- What is left of a list from an index on, by the element there.
use Rattle.std.proofs.Common.{ℕ, List, ◌∷◌, ◌≡◌, ◌+◌, ◌<◌, length, map, drop, get_or, slice_get, Some, refl, ap, sym, ◌∙◌}
use Rattle.std.specs.Option.{option_map}
use Rattle.std.proofs.lemmas.Option.{slice_get-map, slice_get_read}
use Rattle.std.proofs.lemmas.List.{drop_more, drop-map}

pub at_place : {A : Type 0} (xs : List A) (i : ℕ) (x : A) → i < length xs → x ≡ get_or xs i x → drop i xs ≡ x ∷ drop (i + 1) xs
at_place {A} xs i x lt e = drop_more xs i x lt ∙ ap (λ (y : A). y ∷ drop (i + 1) xs) (sym e)

-- the same where each element stands for another
pub at_mapped : {A B : Type 0} (f : A → B) (xs : List A) (i : ℕ) (x : A) → i < length xs → x ≡ get_or xs i x
    → drop i (map f xs) ≡ f x ∷ drop (i + 1) (map f xs)
at_mapped {A} {B} f xs i x lt e =
    drop-map f i xs ∙ ap (map f) (at_place xs i x lt e) ∙ ap (λ (ys : List B). f x ∷ ys) (sym (drop-map f (i + 1) xs))

pub got_mapped : {A B : Type 0} (f : A → B) (xs : List A) (i : ℕ) (x : A) → i < length xs → x ≡ get_or xs i x → slice_get (map f xs) i ≡ Some (f x)
got_mapped f xs i x lt e = slice_get-map f xs i ∙ ap (option_map f) (slice_get_read xs (length xs) i x refl lt e)

pub at_mapped_or : {A B : Type 0} (f : A → B) (xs : List A) (i : ℕ) (d : A) → i < length xs
    → drop i (map f xs) ≡ f (get_or xs i d) ∷ drop (i + 1) (map f xs)
at_mapped_or {A} {B} f xs i d lt =
    drop-map f i xs ∙ ap (map f) (drop_more xs i d lt) ∙ ap (λ (ys : List B). f (get_or xs i d) ∷ ys) (sym (drop-map f (i + 1) xs))
