-- What was read of a bank reads again where it is printed, and is short there, and its state is a bank; how a bank is written.

use Rattle.std.proofs.Common.{ℕ, true, List, [], ◌∷◌, ◌≡◌, ◌+◌, ◌*◌, ◌≤◌, nat_lt, not, length, length-append, length-set, sum, codes, replicate, refl, arith, Option, Some, None, Ok, Err, IfOk}
use Rattle.std.specs.List.{flat_map}
use Rattle.std.specs.Str.{bytes_eq}
use Rattle.std.proofs.lemmas.Bool.Decides.{nat_tests}
use Rattle.std.proofs.lemmas.List.Sums.{sum_by-cons, sum_by-set}
use Rattle.std.proofs.lemmas.List.Folds.{sum_by-replicate}
use Rattle.std.proofs.lemmas.List.{length-replicate}
use Rattle.std.proofs.lemmas.Result.{IfOk-at_ok}
use Rattle.onll_words.specs.Texts.{joined, line_text, AreWords, AreMeaningful}
use Rattle.onll_words.proofs.Decimals.{number_of-decimal, number_of_fits, IsWord-decimal}
use Rattle.onll_model.specs.declared.call.Call.TheVariants.{Update, Ask}
use Rattle.onll_bank.specs.declared.operation.BankOp.{BankOp}
use Rattle.onll_bank.specs.declared.operation.BankOp.TheVariants.{Deposit, Withdraw, Transfer}
use Rattle.onll_bank.specs.declared.operation.BankQuery.{BankQuery}
use Rattle.onll_bank.specs.declared.operation.BankQuery.TheVariants.{Balance, Total}
use Rattle.onll_bank.specs.declared.operation.BankReply.{BankReply}
use Rattle.onll_bank.specs.Bank.{IsBank, greatest_total, is_account, raised}
use Rattle.onll_text.specs.declared.any_object.AnyObject.{AnyObject}
use Rattle.onll_text.specs.declared.any_object.AnyObject.TheVariants as objects
use Rattle.onll_text.specs.declared.reason.Reason.TheVariants.{UnknownWord}
use Rattle.onll_text.specs.Wording.{longest_words, longest_state, Wording}
use Rattle.onll_text.specs.WordsAgain.{IsNumber, length-decimal, if_ok_either}
use Rattle.onll_text.specs.Making.{StateKind}
use Rattle.onll_text.specs.BankText.{BankCall, bank_call_of, deposit_of, withdraw_of, transfer_of, balance_of, total_of, bank_reply_of, bank_op_words, bank_query_words, bank_reply_words, account_line, account_lines, bank_state_lines, Accounts, no_accounts, with_account, with_account_line}

-- ---- calls and replies
abbrev pub bank_call_words : BankCall → List (List ℕ)
bank_call_words (Update op) = bank_op_words op
bank_call_words (Ask query) = bank_query_words query

pub bank_call_in_words : (call : BankCall) → AreWords (bank_call_words call)
bank_call_in_words call = grind (arith, IsWord-decimal)

pub bank_reply_in_words : (reply : BankReply) → AreWords (bank_reply_words reply)
bank_reply_in_words reply = grind (arith, IsWord-decimal)

-- the numbers of a call have 64 bits
abbrev BankCallFits : BankCall → Type 0
BankCallFits (Update (Deposit a x)) = IsNumber a × IsNumber x
BankCallFits (Update (Withdraw a x)) = IsNumber a × IsNumber x
BankCallFits (Update (Transfer a b x)) = IsNumber a × IsNumber b × IsNumber x
BankCallFits (Ask (Balance a)) = IsNumber a
BankCallFits (Ask Total) = Unit {0}

bank_calls_fit : (words : List (List ℕ)) → IfOk (bank_call_of words) BankCallFits
bank_calls_fit [] = tt
bank_calls_fit (first ∷ args) =
    if_ok_either (bytes_eq first (codes "deposit")) (deposit_of args) _ BankCallFits (grind (arith, number_of_fits))
    (if_ok_either (bytes_eq first (codes "withdraw")) (withdraw_of args) _ BankCallFits (grind (arith, number_of_fits))
    (if_ok_either (bytes_eq first (codes "transfer")) (transfer_of args) _ BankCallFits (grind (arith, number_of_fits))
    (if_ok_either (bytes_eq first (codes "balance")) (balance_of args) _ BankCallFits (grind (arith, number_of_fits))
    (if_ok_either (bytes_eq first (codes "total")) (total_of args) (Err UnknownWord) BankCallFits (grind (arith, number_of_fits)) tt))))

bank_fits_again : (call : BankCall) → BankCallFits call → bank_call_of (bank_call_words call) ≡ Ok call
bank_fits_again call h = grind (arith, number_of-decimal)

-- what is printed of a call that was read reads as that call
pub bank_call_again : (words : List (List ℕ)) (call : BankCall) → bank_call_of words ≡ Ok call
    → bank_call_of (bank_call_words call) ≡ Ok call
bank_call_again words call e = bank_fits_again call (IfOk-at_ok BankCallFits e (bank_calls_fit words))

-- what is printed of a call that reads as it is short
pub bank_call_short : (call : BankCall) → bank_call_of (bank_call_words call) ≡ Ok call
    → length (joined (bank_call_words call)) ≤ longest_words
bank_call_short call e = grind (arith, number_of_fits, length-decimal, length-append {A = ℕ})

-- so is what is printed of a reply
pub bank_reply_short : (reply : BankReply) → bank_reply_of (bank_reply_words reply) ≡ Ok reply
    → length (joined (bank_reply_words reply)) ≤ longest_words
bank_reply_short reply e = grind (arith, number_of_fits, length-decimal, length-append {A = ℕ})

-- ---- states
-- a bank with an account's balance raised, within the greatest total
raised_is_bank : (s : List ℕ) (a x : ℕ) → IsBank s → is_account s a ≡ true → not (nat_lt greatest_total (sum s + x)) ≡ true
    → IsBank (raised s a x)
raised_is_bank s a x h here within = grind (arith, nat_tests, length-set, sum_by-set)

account_keeps : (made : Accounts) (n : ℕ × ℕ) → IsBank made.balances → IfOk (with_account made n) (λ more. IsBank more.balances)
account_keeps made n h = grind (arith, raised_is_bank)

pub account_line_keeps : (made : Accounts) (words : List (List ℕ)) → IsBank made.balances
    → IfOk (with_account_line made words) (λ more. IsBank more.balances)
account_line_keeps made words h = grind (arith, account_keeps)

-- accounts with nothing in them
pub empty_is_bank : (n : ℕ) → 1 ≤ n → n ≤ 4096 → IsBank (replicate n 0)
empty_is_bank n least greatest = record {
  least = omega (arith, length-replicate {A = ℕ} n 0);
  greatest = omega (arith, length-replicate {A = ℕ} n 0);
  total = omega (arith, sum_by-replicate (λ (x : ℕ). x) n 0);
}

-- the state of an object, where it is a bank
abbrev pub bank_in : AnyObject → Option (List ℕ)
bank_in (objects.Bank s) = Some s
bank_in _ = None

pub is_bank : (any : AnyObject) (s : List ℕ) → bank_in any ≡ Some s → any ≡ objects.Bank s
is_bank any s e = grind arith

-- the states of a bank
abbrev pub bank_states : StateKind
bank_states = record {
  State = List ℕ;
  object = objects.Bank;
  state = bank_in;
  is_object = is_bank;
  Making = Accounts;
  begun = no_accounts;
  with_line = with_account_line;
  ended = λ made. made.balances;
  Invariant = IsBank;
  begun_keeps = empty_is_bank;
  line_keeps = account_line_keeps;
}

accounts_in_lines : (a : ℕ) (balances : List ℕ) → AreMeaningful (account_lines a balances)
accounts_in_lines a [] = tt
accounts_in_lines a (x ∷ balances) = search (IsWord-decimal, accounts_in_lines (a + 1) balances)

pub bank_in_lines : (balances : List ℕ) → AreMeaningful (bank_state_lines balances)
bank_in_lines balances = search (IsWord-decimal, accounts_in_lines)

-- the lines of a bank are short
length-account_line : (a x : ℕ) → IsNumber a → IsNumber x → length (line_text (account_line a x)) ≤ 50
length-account_line a x h k = grind (arith, length-append {A = ℕ}, length-decimal)

length-account_lines : (a : ℕ) (xs : List ℕ) → a + length xs ≤ 4096 → sum xs ≤ greatest_total
    → length (flat_map line_text (account_lines a xs)) ≤ 50 * length xs
length-account_lines a [] h k = omega arith
length-account_lines a (x ∷ xs) h k =
    omega (
      arith,
      length-append (line_text (account_line a x)) (flat_map line_text (account_lines (a + 1) xs)),
      sum_by-cons (λ n. n) x xs,
      length-account_line a x,
      length-account_lines (a + 1) xs,
    )

-- so is all that is printed of a bank
pub bank_is_short : (s : List ℕ) → IsBank s → length (flat_map line_text (bank_state_lines s)) ≤ longest_state
bank_is_short s h = grind (arith, length-append {A = ℕ}, length-decimal, length-account_lines)

-- how a bank is written, where this reads its states
abbrev pub bank_wording_by : (state_of : List ℕ → Option (List ℕ))
    → ((text s : List ℕ) → state_of text ≡ Some s → IsBank s) → Wording (List ℕ) BankOp BankQuery BankReply
bank_wording_by state_of valid = record {
  call_of = bank_call_of;
  reply_of = bank_reply_of;
  state_of = state_of;
  op_words = bank_op_words;
  query_words = bank_query_words;
  reply_words = bank_reply_words;
  state_lines = bank_state_lines;
  op_in_words = λ op. bank_call_in_words (Update op);
  query_in_words = λ query. bank_call_in_words (Ask query);
  reply_in_words = bank_reply_in_words;
  state_in_lines = bank_in_lines;
  ordered_is_no_reply = refl;
  fence_failed_is_no_reply = refl;
  broken_is_no_reply = refl;
  no_words_are_no_call = refl;
  no_words_are_no_reply = refl;
  op_reads_again = λ words op e. bank_call_again words (Update op) e;
  query_reads_again = λ words query e. bank_call_again words (Ask query) e;
  op_is_short = λ op e. bank_call_short (Update op) e;
  query_is_short = λ query e. bank_call_short (Ask query) e;
  reply_is_short = bank_reply_short;
  state_is_short = λ s e. bank_is_short s (valid (flat_map line_text (bank_state_lines s)) s e);
}
