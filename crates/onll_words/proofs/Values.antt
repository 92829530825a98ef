use Rattle.std.proofs.Common.{ℕ, List, [], ◌∷◌, ◌≡◌, ◌+◌, ◌-◌, ◌*◌, ◌≤◌, length, take, refl, ap, ◌∙◌, arith, add-one, cond, true, false, Bool}
use Rattle.std.proofs.lemmas.Grind.{common_steps}
use Rattle.onll_words.specs.Numbers.{is_digit, run_len, value_after}

-- digits never make a value less
pub value_grows : (ds : List ℕ) (n : ℕ) → n ≤ value_after n ds
value_grows [] n = omega arith
value_grows (d ∷ ds) n = omega (arith, value_grows ds (n * 10 + (d - 48)))

-- the run at the front is all digits
step : (b : Bool) (x : ℕ) (xs : List ℕ) (n : ℕ) → is_digit x ≡ b → (run_len (take n xs) ≡ length (take n xs))
    → run_len (take (cond b (n + 1) 0) (x ∷ xs)) ≡ length (take (cond b (n + 1) 0) (x ∷ xs))
step true x xs n e h = rw (add-one, e) (ap (λ k. k + 1) h ∙ add-one _)
step false x xs n e h = refl

pub run_is_digits : (xs : List ℕ) → run_len (take (run_len xs) xs) ≡ length (take (run_len xs) xs)
run_is_digits [] = refl
run_is_digits (x ∷ xs) = step (is_digit x) x xs (run_len xs) refl (run_is_digits xs)

pub run_of_front : (xs : List ℕ) (n : ℕ) → n ≡ run_len xs → run_len (take n xs) ≡ length (take n xs)
run_of_front xs n e = rw e (run_is_digits xs)

-- where all are digits, the first is
pub run_digit : (x : ℕ) (xs : List ℕ) → run_len (x ∷ xs) ≡ length xs + 1 → (48 ≤ x) × (x ≤ 57)
run_digit x xs h = grind (arith, common_steps)
