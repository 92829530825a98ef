use Rattle.std.proofs.Common.{◌≡◌, ℕ, suc, ◌-◌, inl, inr, Bool, true, false, List, [], ◌∷◌, refl, subst, ⊎_elim, arith}
use Rattle.std.specs.List.{Contains}
use mathlib.Core.Logic.{dite}
use native.Mathlib.Decide.{ℕ_discrete}
use Rattle.onll_model.specs.Looks.{IsLook, LookSays}

-- What a look says of the places that it loaded.

contains_first : {A : Type 0} (x : A) (xs : List A) → Contains (x ∷ xs) x
contains_first x xs = (0, omega arith, refl)

contains_later : {A : Type 0} (x y : A) (xs : List A) → Contains xs x → Contains (y ∷ xs) x
contains_later x y xs h = let l = h.1 in (suc h.0, omega arith, h.2)

pub look_says : (b front place : ℕ) (loads : List (ℕ × Bool)) → IsLook b front place loads → LookSays b front place loads
look_says b front place [] h = let f = h.0 in let e = h.1 in record {
  base = omega arith;
  below = omega arith;
  unset = λ q low high. absurd (omega arith);
  set = inl e;
}
look_says b front place ((p, true) ∷ []) h = let low = h.0 in let f = h.1 in let e = h.2 in let same : p ≡ place = omega arith in record {
  base = omega arith;
  below = omega arith;
  unset = λ q low high. absurd (omega arith);
  set = inr (subst (λ (z : ℕ). Contains {X = ℕ × Bool} ((p, true) ∷ []) (z, true)) same (contains_first {A = ℕ × Bool} (p, true) []));
}
look_says b front place ((p, true) ∷ load ∷ loads) h = absurd h
look_says b front place ((p, false) ∷ loads) h =
    let r = look_says b (front - 1) place loads h.2 in
    let low = h.0 in
    let here = h.1 in
    let below = r.below in
    record {
      base = r.base;
      below = omega arith;
      unset = λ q above high. dite (ℕ_discrete p q)
          (λ (same : p ≡ q). subst (λ (z : ℕ). Contains {X = ℕ × Bool} ((p, false) ∷ loads) (z, false)) same (contains_first {A = ℕ × Bool} (p, false) loads))
          (λ other. contains_later (q, false) (p, false) loads (r.unset q above (omega arith)));
      set = ⊎_elim (λ (e : place ≡ b). inl e) (λ (c : Contains loads (place, true)). inr (contains_later (place, true) (p, false) loads c)) r.set;
    }
