use Rattle.std.proofs.Common.{ℕ, Bool, true, false, ◌≡◌, refl, Result, Ok, Err}
use Rattle.onll_text.specs.declared.reason.Reason.{Reason}
use Rattle.onll_text.specs.Refusal.{◌>>=◌, only_if, at_line}

-- What was accepted was accepted at each step.

pub accepted : {A B E : Type 0} (v : Result A E) (f : A → Result B E) (y : B) → (v >>= f) ≡ Ok y → (x : A) × (v ≡ Ok x) × (f x ≡ Ok y)
accepted (Ok x) f y e = (x, refl, e)
accepted (Err r) f y e = cc e

pub accepted_if : {A : Type 0} (test : Bool) (reason : Reason) (x y : A) → only_if test reason x ≡ Ok y → (test ≡ true) × (x ≡ y)
accepted_if true reason x y e = (refl, cc e)
accepted_if false reason x y e = cc e

pub accepted_line : {A : Type 0} (n : ℕ) (v : Result A Reason) (y : A) → at_line n v ≡ Ok y → v ≡ Ok y
accepted_line n (Ok x) y e = cc e
accepted_line n (Err r) y e = cc e
