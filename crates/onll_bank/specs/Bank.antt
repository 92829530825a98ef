-- A bank is the list of its accounts' balances; its capacity is their number.

use Rattle.std.specs.Prelude.{ℕ, Bool, List, [], ◌∷◌, ◌+◌, ◌-◌, ◌^◌, ◌≤◌, Option, Some, None, if◌then◌else◌, length, slice_index, slice_set, sum, nat_lt, ◌==◌, ◌&&◌}
use Rattle.onll_model.specs.Limits.{most_elements}
use Rattle.onll_words.specs.declared.line.OpRow.{OpRow}
use Rattle.onll_bank.specs.declared.operation.BankOp.{BankOp}
use Rattle.onll_bank.specs.declared.operation.BankOp.TheVariants.{Deposit, Withdraw, Transfer}
use Rattle.onll_bank.specs.declared.operation.BankQuery.{BankQuery}
use Rattle.onll_bank.specs.declared.operation.BankQuery.TheVariants.{Balance, Total}
use Rattle.onll_bank.specs.declared.operation.BankReply.{BankReply}
use Rattle.onll_bank.specs.declared.operation.BankReply.TheVariants.{Done, Over, TooLittle, NoAccount, Amount}

-- the greatest sum of all balances
abbrev pub greatest_total : ℕ
greatest_total = 2 ^ 64 - 1

-- there are 1 to 4,096 accounts, and the sum of all balances fits into 64 bits
pub record IsBank (s : List ℕ) : Type 0 where
  pub least : 1 ≤ length s
  pub greatest : length s ≤ most_elements
  pub total : sum s ≤ greatest_total

abbrev pub is_account : List ℕ → ℕ → Bool
is_account s a = nat_lt a (length s)

-- whether an account has less than x
abbrev pub is_short : List ℕ → ℕ → ℕ → Bool
is_short s a x = nat_lt (slice_index s a) x

-- the reply to an operation: the first cause that stands, and otherwise that it is done
abbrev pub bank_reply : List ℕ → BankOp → BankReply
bank_reply s (Deposit a x) = if is_account s a then (if nat_lt greatest_total (sum s + x) then Over else Done) else NoAccount
bank_reply s (Withdraw a x) = if is_account s a then (if is_short s a x then TooLittle else Done) else NoAccount
bank_reply s (Transfer a b x) = if is_account s a && is_account s b then (if is_short s a x then TooLittle else Done) else NoAccount

abbrev pub raised : List ℕ → ℕ → ℕ → List ℕ
raised s a x = slice_set s a (slice_index s a + x)

abbrev pub lowered : List ℕ → ℕ → ℕ → List ℕ
lowered s a x = slice_set s a (slice_index s a - x)

-- the balances after an operation that is done; a transfer to the same account takes x and gives it back
abbrev pub balances_done : List ℕ → BankOp → List ℕ
balances_done s (Deposit a x) = raised s a x
balances_done s (Withdraw a x) = lowered s a x
balances_done s (Transfer a b x) = raised (lowered s a x) b x

-- what is done changes the balances, and no other reply does
abbrev pub if_done : BankReply → List ℕ → List ℕ → List ℕ
if_done Done new old = new
if_done Over new old = old
if_done TooLittle new old = old
if_done NoAccount new old = old
if_done (Amount n) new old = old

-- the balances after an operation
abbrev pub bank_next : List ℕ → BankOp → List ℕ
bank_next s op = if_done (bank_reply s op) (balances_done s op) s

abbrev pub bank_answer : List ℕ → BankQuery → BankReply
bank_answer s (Balance a) = if is_account s a then Amount (slice_index s a) else NoAccount
bank_answer s Total = Amount (sum s)

-- the row of an operation: its code, its arguments, and zeros
abbrev pub bank_row : BankOp → OpRow
bank_row (Deposit a x) = record { w = 1 ∷ a ∷ x ∷ 0 ∷ 0 ∷ 0 ∷ 0 ∷ [] }
bank_row (Withdraw a x) = record { w = 2 ∷ a ∷ x ∷ 0 ∷ 0 ∷ 0 ∷ 0 ∷ [] }
bank_row (Transfer a b x) = record { w = 3 ∷ a ∷ b ∷ x ∷ 0 ∷ 0 ∷ 0 ∷ [] }

-- the operation of a row's words, where they are those of one
abbrev pub op_of_words : List ℕ → Option BankOp
op_of_words (k ∷ a ∷ b ∷ c ∷ d ∷ e ∷ f ∷ []) =
    if k == 1 && (c == 0) && (d == 0) && (e == 0) && (f == 0) then Some (Deposit a b)
    else (if k == 2 && (c == 0) && (d == 0) && (e == 0) && (f == 0) then Some (Withdraw a b)
    else (if k == 3 && (d == 0) && (e == 0) && (f == 0) then Some (Transfer a b c)
    else None))
op_of_words _ = None

abbrev pub bank_op_at : OpRow → Option BankOp
bank_op_at row = op_of_words row.w
