-- Operations done in order on a bank.

use Rattle.std.specs.Prelude.{ℕ, List, [], ◌∷◌, ◌+◌, ◌≡◌, ◌≢◌, sum}
use Rattle.onll_bank.specs.declared.operation.BankOp.{BankOp}
use Rattle.onll_bank.specs.declared.operation.BankOp.TheVariants.{Deposit, Withdraw, Transfer}
use Rattle.onll_bank.specs.declared.operation.BankReply.{BankReply}
use Rattle.onll_bank.specs.declared.operation.BankReply.TheVariants.{Done}
use Rattle.onll_bank.specs.Bank.{IsBank, bank_reply, bank_next}

-- the balances that they leave
abbrev pub bank_after : List ℕ → List BankOp → List ℕ
bank_after s [] = s
bank_after s (op ∷ ops) = bank_after (bank_next s op) ops

-- their replies
abbrev pub replies_of : List ℕ → List BankOp → List BankReply
replies_of s [] = []
replies_of s (op ∷ ops) = bank_reply s op ∷ replies_of (bank_next s op) ops

-- what an operation with this reply puts into the bank: the amount of a deposit that was done
abbrev pub put_in : BankOp → BankReply → ℕ
put_in (Deposit a x) Done = x
put_in op reply = 0

-- what it takes out of the bank: the amount of a withdrawal that was done
abbrev pub taken_out : BankOp → BankReply → ℕ
taken_out (Withdraw a x) Done = x
taken_out op reply = 0

-- the sum of the deposits that were done
abbrev pub deposited : List BankOp → List BankReply → ℕ
deposited [] replies = 0
deposited (op ∷ ops) [] = 0
deposited (op ∷ ops) (reply ∷ replies) = put_in op reply + deposited ops replies

-- the sum of the withdrawals that were done
abbrev pub withdrawn : List BankOp → List BankReply → ℕ
withdrawn [] replies = 0
withdrawn (op ∷ ops) [] = 0
withdrawn (op ∷ ops) (reply ∷ replies) = taken_out op reply + withdrawn ops replies

-- No money is made or lost: the new total and what was withdrawn are the old total and what was deposited.
abbrev pub TotalLaw : Type 0
TotalLaw = (s : List ℕ) (ops : List BankOp)
    → sum (bank_after s ops) + withdrawn ops (replies_of s ops) ≡ sum s + deposited ops (replies_of s ops)

-- a transfer keeps the total
abbrev pub TransferLaw : Type 0
TransferLaw = (s : List ℕ) (a b x : ℕ) → sum (bank_next s (Transfer a b x)) ≡ sum s

-- what is refused changes nothing
abbrev pub RefusedLaw : Type 0
RefusedLaw = (s : List ℕ) (op : BankOp) → bank_reply s op ≢ Done → bank_next s op ≡ s

-- the number of accounts and the total stay within their bounds
abbrev pub BoundLaw : Type 0
BoundLaw = (s : List ℕ) (ops : List BankOp) → IsBank s → IsBank (bank_after s ops)
