-- The first bytes of a file.
use Rattle.std.proofs.Common.{ℕ, zero, suc, Bool, true, false, List, [], ◌∷◌, ◌≡◌, take, Option, Some, None, refl, sym, ap, ◌∙◌, Result, Ok}
use Rattle.onll_outside.specs.Views.{StoreView, Gives, IsFrontOfFile}
use Rattle.onll_text.specs.Refusal.{Refusal}
use Rattle.onll_task.specs.Reading.{Reads}

first_twice : (n : ℕ) (bytes : List ℕ) → take n (take n bytes) ≡ take n bytes
first_twice zero bytes = refl
first_twice (suc n) [] = refl
first_twice (suc n) (b ∷ bytes) = ap (λ (z : List ℕ). b ∷ z) (first_twice n bytes)

abbrev pub front_in : ℕ → List ℕ → Result (List ℕ) Refusal
front_in limit bytes = Ok (take limit bytes)

-- what a store gives of a file, cut off at the limit, is the file read up to there
pub front_read : (s : StoreView) (name text : List ℕ) (limit : ℕ) → Gives s name limit text → Reads s (front_in limit) name (take limit text)
front_read s name text limit h = by_telling s.tells refl
  where
    told : (found : Option (List ℕ)) → s.file name ≡ found → IsFrontOfFile limit found text → Reads s (front_in limit) name (take limit text)
    told None e k = absurd k
    told (Some all) e k = record { bytes = all; held = λ _. e; accepted = ap Ok (sym (ap (take limit) k ∙ first_twice limit all)) }

    by_telling : (t : Bool) → s.tells ≡ t → Reads s (front_in limit) name (take limit text)
    by_telling true e = told (s.file name) refl (h e)
    by_telling false e = record { bytes = text; held = λ tells. (cc (e, tells)); accepted = refl }
