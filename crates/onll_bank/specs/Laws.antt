-- The rows of a bank's operations stand for these alone.

use Rattle.std.proofs.Common.{ℕ, Bool, true, false, List, [], ◌∷◌, ◌≡◌, ◌==◌, ◌&&◌, Some, None, cond, length, refl, ap, ◌∙◌, length-set}
use Rattle.onll_words.specs.declared.line.OpRow.{OpRow}
use Rattle.onll_words.proofs.RowWords.{two_arguments, three_arguments}
use Rattle.onll_bank.specs.declared.operation.BankOp.{BankOp}
use Rattle.onll_bank.specs.declared.operation.BankOp.TheVariants.{Deposit, Withdraw, Transfer}
use Rattle.onll_bank.specs.declared.operation.BankReply.{BankReply}
use Rattle.onll_bank.specs.declared.operation.BankReply.TheVariants.{Done, Over, TooLittle, NoAccount, Amount}
use Rattle.onll_bank.specs.Bank.{if_done, balances_done, bank_reply, bank_next, bank_row, op_of_words, bank_op_at}

if_done_keeps : (P : List ℕ → Type 0) (r : BankReply) (new old : List ℕ) → P new → P old → P (if_done r new old)
if_done_keeps P Done new old h k = h
if_done_keeps P Over new old h k = k
if_done_keeps P TooLittle new old h k = k
if_done_keeps P NoAccount new old h k = k
if_done_keeps P (Amount n) new old h k = k

length-balances_done : (s : List ℕ) (op : BankOp) → length (balances_done s op) ≡ length s
length-balances_done s (Deposit a x) = length-set s a _
length-balances_done s (Withdraw a x) = length-set s a _
length-balances_done s (Transfer a b x) = length-set _ b _ ∙ length-set s a _

pub length-bank_next : (s : List ℕ) (op : BankOp) → length (bank_next s op) ≡ length s
length-bank_next s op = if_done_keeps (λ t. length t ≡ length s) (bank_reply s op) (balances_done s op) s (length-balances_done s op) refl

pub op_of_its_row : (op : BankOp) → bank_op_at (bank_row op) ≡ Some op
op_of_its_row (Deposit a x) = refl
op_of_its_row (Withdraw a x) = refl
op_of_its_row (Transfer a b x) = refl

-- the rows of these words, by the tests in turn
by_tests : (t₁ t₂ t₃ : Bool) (ws : List ℕ) (x₁ x₂ x₃ op : BankOp)
    → (t₁ ≡ true → (bank_row x₁).w ≡ ws) → (t₂ ≡ true → (bank_row x₂).w ≡ ws) → (t₃ ≡ true → (bank_row x₃).w ≡ ws)
    → cond t₁ (Some x₁) (cond t₂ (Some x₂) (cond t₃ (Some x₃) None)) ≡ Some op → (bank_row op).w ≡ ws
by_tests true t₂ t₃ ws x₁ x₂ x₃ op f₁ f₂ f₃ e = let same : x₁ ≡ op = cc e in rw (← same) (f₁ refl)
by_tests false true t₃ ws x₁ x₂ x₃ op f₁ f₂ f₃ e = let same : x₂ ≡ op = cc e in rw (← same) (f₂ refl)
by_tests false false true ws x₁ x₂ x₃ op f₁ f₂ f₃ e = let same : x₃ ≡ op = cc e in rw (← same) (f₃ refl)
by_tests false false false ws x₁ x₂ x₃ op f₁ f₂ f₃ e = cc

words_of_its_op : (ws : List ℕ) (op : BankOp) → op_of_words ws ≡ Some op → (bank_row op).w ≡ ws
words_of_its_op (k ∷ a ∷ b ∷ c ∷ d ∷ e ∷ f ∷ []) op h =
    by_tests (k == 1 && (c == 0) && (d == 0) && (e == 0) && (f == 0))
    (k == 2 && (c == 0) && (d == 0) && (e == 0) && (f == 0)) (k == 3 && (d == 0) && (e == 0) && (f == 0))
    (k ∷ a ∷ b ∷ c ∷ d ∷ e ∷ f ∷ []) (Deposit a b) (Withdraw a b) (Transfer a b c) op
    (two_arguments 1 k a b c d e f) (two_arguments 2 k a b c d e f) (three_arguments 3 k a b c d e f) h
words_of_its_op _ op h = cc

pub row_of_its_op : (row : OpRow) (op : BankOp) → bank_op_at row ≡ Some op → bank_row op ≡ row
row_of_its_op row op e = ap (λ (w : List ℕ). record { w = w }) (words_of_its_op row.w op e)

pub seven_words : (op : BankOp) → length (bank_row op).w ≡ 7
seven_words (Deposit a x) = refl
seven_words (Withdraw a x) = refl
seven_words (Transfer a b x) = refl
