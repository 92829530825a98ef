-- The calls, replies and initial states of a bank, as texts say them.

use Rattle.std.specs.Prelude.{ℕ, Bool, true, false, List, [], ◌∷◌, ◌+◌, Option, Some, None, Result, Ok, Err, if◌then◌else◌, length, codes, decimal, replicate, slice_set, slice_get, sum, nat_lt, not}
use Rattle.std.specs.Str.{bytes_eq}
use Rattle.onll_model.specs.declared.call.Call.{Call}
use Rattle.onll_model.specs.declared.call.Call.TheVariants.{Update, Ask}
use Rattle.onll_bank.specs.declared.operation.BankOp.{BankOp}
use Rattle.onll_bank.specs.declared.operation.BankOp.TheVariants.{Deposit, Withdraw, Transfer}
use Rattle.onll_bank.specs.declared.operation.BankQuery.{BankQuery}
use Rattle.onll_bank.specs.declared.operation.BankQuery.TheVariants.{Balance, Total}
use Rattle.onll_bank.specs.declared.operation.BankReply.{BankReply}
use Rattle.onll_bank.specs.declared.operation.BankReply.TheVariants.{Done, Over, TooLittle, NoAccount, Amount}
use Rattle.onll_bank.specs.Bank.{is_account, raised, greatest_total}
use Rattle.onll_text.specs.declared.reason.Reason.{Reason}
use Rattle.onll_text.specs.declared.reason.Reason.TheVariants.{UnknownWord, WrongCount, OutOfRange, Repeated, TooLarge}
use Rattle.onll_text.specs.Refusal.{◌>>=◌, only_if}
use Rattle.onll_text.specs.Words.{word_as_number, no_word, one_number, two_numbers, three_numbers}

abbrev pub BankCall : Type 0
BankCall = Call (List ℕ) BankOp BankQuery BankReply

-- the calls of a line's words after the first
abbrev pub deposit_of : List (List ℕ) → Result BankCall Reason
deposit_of args = two_numbers args >>= λ n. Ok (Update (Deposit n.0 n.1))

abbrev pub withdraw_of : List (List ℕ) → Result BankCall Reason
withdraw_of args = two_numbers args >>= λ n. Ok (Update (Withdraw n.0 n.1))

abbrev pub transfer_of : List (List ℕ) → Result BankCall Reason
transfer_of args = three_numbers args >>= λ n. Ok (Update (Transfer n.0 n.1 n.2))

abbrev pub balance_of : List (List ℕ) → Result BankCall Reason
balance_of args = one_number args >>= λ a. Ok (Ask (Balance a))

abbrev pub total_of : List (List ℕ) → Result BankCall Reason
total_of args = no_word args >>= λ none. Ok (Ask Total)

-- the call of a line's words
abbrev pub bank_call_of : List (List ℕ) → Result BankCall Reason
bank_call_of [] = Err UnknownWord
bank_call_of (first ∷ args) =
    if bytes_eq first (codes "deposit") then deposit_of args
    else (if bytes_eq first (codes "withdraw") then withdraw_of args
    else (if bytes_eq first (codes "transfer") then transfer_of args
    else (if bytes_eq first (codes "balance") then balance_of args
    else (if bytes_eq first (codes "total") then total_of args
    else Err UnknownWord))))

abbrev pub bank_op_words : BankOp → List (List ℕ)
bank_op_words (Deposit a x) = codes "deposit" ∷ decimal a ∷ decimal x ∷ []
bank_op_words (Withdraw a x) = codes "withdraw" ∷ decimal a ∷ decimal x ∷ []
bank_op_words (Transfer a b x) = codes "transfer" ∷ decimal a ∷ decimal b ∷ decimal x ∷ []

abbrev pub bank_query_words : BankQuery → List (List ℕ)
bank_query_words (Balance a) = codes "balance" ∷ decimal a ∷ []
bank_query_words Total = codes "total" ∷ []

abbrev pub bank_reply_words : BankReply → List (List ℕ)
bank_reply_words Done = codes "ok" ∷ []
bank_reply_words Over = codes "over" ∷ []
bank_reply_words TooLittle = codes "short" ∷ []
bank_reply_words NoAccount = codes "no-account" ∷ []
bank_reply_words (Amount n) = decimal n ∷ []

-- the reply that a word other than a number says
abbrev pub word_reply_of : List ℕ → Result BankReply Reason
word_reply_of word =
    if bytes_eq word (codes "ok") then Ok Done
    else (if bytes_eq word (codes "over") then Ok Over
    else (if bytes_eq word (codes "short") then Ok TooLittle
    else (if bytes_eq word (codes "no-account") then Ok NoAccount
    else Err UnknownWord)))

abbrev pub amount_or : Result ℕ Reason → Result BankReply Reason → Result BankReply Reason
amount_or (Ok n) other = Ok (Amount n)
amount_or (Err reason) other = other

-- the reply that words say
abbrev pub bank_reply_of : List (List ℕ) → Result BankReply Reason
bank_reply_of (word ∷ []) = amount_or (word_as_number word) (word_reply_of word)
bank_reply_of _ = Err WrongCount

abbrev pub account_line : ℕ → ℕ → List (List ℕ)
account_line a balance = codes "account" ∷ decimal a ∷ decimal balance ∷ []

-- the line of each account, the first of them being account a
abbrev pub account_lines : ℕ → List ℕ → List (List (List ℕ))
account_lines a [] = []
account_lines a (x ∷ balances) = account_line a x ∷ account_lines (a + 1) balances

abbrev pub bank_state_lines : List ℕ → List (List (List ℕ))
bank_state_lines balances = (codes "bank" ∷ decimal (length balances) ∷ []) ∷ account_lines 0 balances

-- An initial bank in the making: its balances so far, and which accounts were named.
pub record Accounts : Type 0 where
  pub balances : List ℕ
  pub named : List Bool

abbrev pub no_accounts : ℕ → Accounts
no_accounts capacity = record { balances = replicate capacity 0; named = replicate capacity false }

abbrev pub is_marked : Option Bool → Bool
is_marked None = false
is_marked (Some mark) = mark

abbrev pub is_named : Accounts → ℕ → Bool
is_named made a = is_marked (slice_get made.named a)

-- one account more, by its number and its balance
abbrev pub with_account : Accounts → ℕ × ℕ → Result Accounts Reason
with_account made n =
    only_if (is_account made.balances n.0) OutOfRange made
    >>= (λ m. only_if (not (is_named m n.0)) Repeated m)
    >>= (λ m. only_if (not (nat_lt greatest_total (sum m.balances + n.1))) TooLarge
    (record { balances = raised m.balances n.0 n.1; named = slice_set m.named n.0 true }))

-- one line more, by its words
abbrev pub with_account_line : Accounts → List (List ℕ) → Result Accounts Reason
with_account_line made [] = Err UnknownWord
with_account_line made (first ∷ args) =
    if bytes_eq first (codes "account") then (two_numbers args >>= with_account made) else Err UnknownWord
