-- Two runs of bytes, compared from a place on.
use Rattle.std.proofs.Common.{ℕ, Bool, true, false, List, [], ◌∷◌, ◌≡◌, ◌≢◌, ◌+◌, ◌<◌, ◌≤◌, ◌&&◌, length, drop, get_or, nat_eq, refl, ap, ◌∙◌}
use Rattle.std.specs.Str.{bytes_eq}
use Rattle.std.proofs.lemmas.List.{drop_more, drop_all}
use Rattle.std.proofs.lemmas.Slice.Eq.{bytes_eq-Decides}

-- unequal lengths decide
pub other_length : (xs ys : List ℕ) → length xs ≢ length ys → bytes_eq xs ys ≡ false
other_length xs ys other = by_test (bytes_eq xs ys) refl
  where
    by_test : (t : Bool) → bytes_eq xs ys ≡ t → t ≡ false
    by_test false e = refl
    by_test true e = absurd (other (ap length ((bytes_eq-Decides xs ys).0 e)))

-- the bytes at a place, and those after it
pub from_place : (xs ys : List ℕ) (i : ℕ) → i < length xs → i < length ys
    → bytes_eq (drop i xs) (drop i ys) ≡ (nat_eq (get_or xs i 0) (get_or ys i 0) && bytes_eq (drop (i + 1) xs) (drop (i + 1) ys))
from_place xs ys i lt less =
    ap (λ (l : List ℕ). bytes_eq l (drop i ys)) (drop_more xs i 0 lt)
    ∙ ap (bytes_eq (get_or xs i 0 ∷ drop (i + 1) xs)) (drop_more ys i 0 less)

-- no byte is left
pub at_end : (xs ys : List ℕ) (i : ℕ) → length xs ≤ i → length ys ≤ i → bytes_eq (drop i xs) (drop i ys) ≡ true
at_end xs ys i le most =
    ap (λ (l : List ℕ). bytes_eq l (drop i ys)) (drop_all i xs le) ∙ ap (bytes_eq []) (drop_all i ys most)

pub ruleset comparing = (other_length, from_place, at_end)
