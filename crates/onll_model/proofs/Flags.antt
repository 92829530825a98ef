use Rattle.std.proofs.Common.{◌≡◌, ◌≢◌, ℕ, zero, suc, ◌-◌, ◌<◌, ◌≤◌, ◌⊎◌, inl, inr, Bool, true, false, List, [], ◌∷◌, ◌++◌, length, get_or, set, refl, sym, ap, ◌∙◌, arith, true≢false, get_or-set_same, get_or-set_other}
use mathlib.Core.Logic.{dite}
use native.Mathlib.Decide.{ℕ_discrete}
use Rattle.onll_model.specs.Frames.{is_available}

-- On flags read by place.

flags_before : (fs gs : List Bool) (p : ℕ) → p < length fs → get_or (fs ++ gs) p false ≡ get_or fs p false
flags_before [] gs p l = absurd (omega arith)
flags_before (b ∷ fs) gs zero l = refl
flags_before (b ∷ fs) gs (suc p) l = flags_before fs gs p (omega arith)

flags_past : (fs : List Bool) (p : ℕ) → length fs ≤ p → get_or (fs ++ false ∷ []) p false ≡ false
flags_past [] zero l = refl
flags_past [] (suc p) l = refl
flags_past (b ∷ fs) zero l = absurd (omega arith)
flags_past (b ∷ fs) (suc p) l = flags_past fs p (omega arith)

pub flag_before : (fs gs : List Bool) (p : ℕ) → p ≤ length fs → is_available (fs ++ gs) p ≡ is_available fs p
flag_before fs gs zero l = refl
flag_before fs gs (suc p) l = flags_before fs gs p (omega arith)

pub flag_past : (fs : List Bool) (p : ℕ) → length fs < p → is_available (fs ++ false ∷ []) p ≡ false
flag_past fs zero l = absurd (omega arith)
flag_past fs (suc p) l = flags_past fs p (omega arith)

flag_inside : (fs : List Bool) (p : ℕ) → get_or fs p false ≡ true → p < length fs
flag_inside [] p e = absurd (true≢false (sym e))
flag_inside (b ∷ fs) zero e = omega arith
flag_inside (b ∷ fs) (suc p) e = let h = flag_inside fs p e in omega arith

-- an available place is one of the trace
pub available_low : (fs : List Bool) (p : ℕ) → is_available fs p ≡ true → p ≤ length fs
available_low fs zero e = omega arith
available_low fs (suc p) e = let h = flag_inside fs p e in omega arith

-- after one flag is set
pub flag_set : (fs : List Bool) (p q : ℕ) → 1 ≤ p → p ≤ length fs → ((q ≡ p) × (is_available (set fs (p - 1) true) q ≡ true)) ⊎ ((q ≢ p) × (is_available (set fs (p - 1) true) q ≡ is_available fs q))
flag_set fs zero q a b = absurd (omega arith)
flag_set fs (suc p) zero a b = inr ((λ e. omega arith), refl)
flag_set fs (suc p) (suc q) a b = let k : suc p - 1 ≡ p = omega arith in dite (ℕ_discrete q p)
    (λ is. inl (ap suc is, ap (λ (z : ℕ). get_or (set fs z true) q false) k ∙ (ap (λ (z : ℕ). get_or (set fs p true) z false) is ∙ get_or-set_same fs p true false (omega arith))))
    (λ not. inr ((λ e. not (omega arith)), ap (λ (z : ℕ). get_or (set fs z true) q false) k ∙ get_or-set_other fs p q true false not))
