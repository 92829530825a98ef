-- The rows of a lease table's operations.

use Rattle.std.proofs.Common.{ℕ, Bool, true, false, List, [], ◌∷◌, ◌≡◌, ◌==◌, ◌&&◌, if◌then◌else◌, Option, Some, None, cond, length, refl, ap}
use Rattle.onll_words.specs.declared.line.OpRow.{OpRow}
use Rattle.onll_words.proofs.RowWords.{two_arguments, four_arguments}
use Rattle.onll_lease.specs.declared.operation.LeaseOp.{LeaseOp}
use Rattle.onll_lease.specs.declared.operation.LeaseOp.TheVariants.{Grant, Renew, Release}

-- the row of an operation: its code, its arguments, and zeros
abbrev pub lease_row : LeaseOp → OpRow
lease_row (Grant r h now ttl) = record { w = 1 ∷ r ∷ h ∷ now ∷ ttl ∷ 0 ∷ 0 ∷ [] }
lease_row (Renew r t now ttl) = record { w = 2 ∷ r ∷ t ∷ now ∷ ttl ∷ 0 ∷ 0 ∷ [] }
lease_row (Release r t) = record { w = 3 ∷ r ∷ t ∷ 0 ∷ 0 ∷ 0 ∷ 0 ∷ [] }

-- the operation of a row's words, where they are those of one
abbrev pub op_of_words : List ℕ → Option LeaseOp
op_of_words (k ∷ a ∷ b ∷ c ∷ d ∷ e ∷ f ∷ []) =
    if k == 1 && (e == 0) && (f == 0) then Some (Grant a b c d)
    else (if k == 2 && (e == 0) && (f == 0) then Some (Renew a b c d)
    else (if k == 3 && (c == 0) && (d == 0) && (e == 0) && (f == 0) then Some (Release a b)
    else None))
op_of_words _ = None

abbrev pub lease_op_at : OpRow → Option LeaseOp
lease_op_at row = op_of_words row.w

pub op_of_its_row : (op : LeaseOp) → lease_op_at (lease_row op) ≡ Some op
op_of_its_row (Grant r h now ttl) = refl
op_of_its_row (Renew r t now ttl) = refl
op_of_its_row (Release r t) = refl

-- the rows of these words, by the tests in turn
by_tests : (t₁ t₂ t₃ : Bool) (ws : List ℕ) (x₁ x₂ x₃ op : LeaseOp)
    → (t₁ ≡ true → (lease_row x₁).w ≡ ws) → (t₂ ≡ true → (lease_row x₂).w ≡ ws) → (t₃ ≡ true → (lease_row x₃).w ≡ ws)
    → cond t₁ (Some x₁) (cond t₂ (Some x₂) (cond t₃ (Some x₃) None)) ≡ Some op → (lease_row op).w ≡ ws
by_tests true t₂ t₃ ws x₁ x₂ x₃ op f₁ f₂ f₃ e = let same : x₁ ≡ op = cc e in rw (← same) (f₁ refl)
by_tests false true t₃ ws x₁ x₂ x₃ op f₁ f₂ f₃ e = let same : x₂ ≡ op = cc e in rw (← same) (f₂ refl)
by_tests false false true ws x₁ x₂ x₃ op f₁ f₂ f₃ e = let same : x₃ ≡ op = cc e in rw (← same) (f₃ refl)
by_tests false false false ws x₁ x₂ x₃ op f₁ f₂ f₃ e = cc

words_of_its_op : (ws : List ℕ) (op : LeaseOp) → op_of_words ws ≡ Some op → (lease_row op).w ≡ ws
words_of_its_op (k ∷ a ∷ b ∷ c ∷ d ∷ e ∷ f ∷ []) op h =
    by_tests (k == 1 && (e == 0) && (f == 0)) (k == 2 && (e == 0) && (f == 0)) (k == 3 && (c == 0) && (d == 0) && (e == 0) && (f == 0))
    (k ∷ a ∷ b ∷ c ∷ d ∷ e ∷ f ∷ []) (Grant a b c d) (Renew a b c d) (Release a b) op
    (four_arguments 1 k a b c d e f) (four_arguments 2 k a b c d e f) (two_arguments 3 k a b c d e f) h
words_of_its_op _ op h = cc

pub row_of_its_op : (row : OpRow) (op : LeaseOp) → lease_op_at row ≡ Some op → lease_row op ≡ row
row_of_its_op row op e = ap (λ (w : List ℕ). record { w = w }) (words_of_its_op row.w op e)

pub seven_words : (op : LeaseOp) → length (lease_row op).w ≡ 7
seven_words (Grant r h now ttl) = refl
seven_words (Renew r t now ttl) = refl
seven_words (Release r t) = refl
