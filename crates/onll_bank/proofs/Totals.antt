use Rattle.std.proofs.Common.{ℕ, Bool, true, false, List, [], ◌∷◌, ◌≡◌, ◌≢◌, ◌+◌, ◌-◌, ◌<◌, ◌≤◌, ◌&&◌, cond, nat_lt, length, length-set, sum, slice_index_or, refl, arith}
use Rattle.std.proofs.lemmas.Bool.Decides.{nat_tests}
use Rattle.onll_bank.specs.declared.operation.BankOp.{BankOp}
use Rattle.onll_bank.specs.declared.operation.BankOp.TheVariants.{Deposit, Withdraw, Transfer}
use Rattle.onll_bank.specs.declared.operation.BankReply.{BankReply}
use Rattle.onll_bank.specs.declared.operation.BankReply.TheVariants.{Done, Over, TooLittle, NoAccount, Amount}
use Rattle.onll_bank.specs.Bank.{IsBank, greatest_total, is_account, is_short, bank_reply, bank_next, raised, lowered, if_done}
use Rattle.onll_bank.specs.Laws.{length-bank_next}
use Rattle.onll_bank.specs.Totals.{put_in, taken_out, TotalLaw, TransferLaw, RefusedLaw, BoundLaw}
use Rattle.onll_bank.proofs.Sums.{sum_raised, sum_lowered}

-- The totals after operations.

-- what an operation with this reply does to the total
abbrev Counts : BankOp → List ℕ → BankReply → List ℕ → Type 0
Counts op s reply done = sum (if_done reply done s) + taken_out op reply ≡ sum s + put_in op reply

deposit_counts : (s : List ℕ) (a x : ℕ) (here over : Bool) → here ≡ is_account s a → Counts (Deposit a x) s (cond here (cond over Over Done) NoAccount) (raised s a x)
deposit_counts s a x true true e = refl
deposit_counts s a x true false e = let k : a < length s = grind (arith, nat_tests) in omega (arith, sum_raised s a x k)
deposit_counts s a x false over e = refl

withdraw_counts : (s : List ℕ) (a x : ℕ) (here short : Bool) → here ≡ is_account s a → short ≡ is_short s a x → Counts (Withdraw a x) s (cond here (cond short TooLittle Done) NoAccount) (lowered s a x)
withdraw_counts s a x true true e f = refl
withdraw_counts s a x true false e f =
    let k : a < length s = grind (arith, nat_tests) in
    let enough : x ≤ slice_index_or s a 0 = grind (arith, nat_tests) in
    omega (arith, sum_lowered s a x k enough)
withdraw_counts s a x false short e f = refl

transfer_counts : (s : List ℕ) (a b x : ℕ) (here short : Bool) → here ≡ (is_account s a && is_account s b) → short ≡ is_short s a x
    → Counts (Transfer a b x) s (cond here (cond short TooLittle Done) NoAccount) (raised (lowered s a x) b x)
transfer_counts s a b x true true e f = refl
transfer_counts s a b x true false e f =
    let ka : a < length s = grind (arith, nat_tests) in
    let kb : b < length s = grind (arith, nat_tests) in
    let enough : x ≤ slice_index_or s a 0 = grind (arith, nat_tests) in
    let t : List ℕ = lowered s a x in
    let k : b < length t = omega (arith, kb, length-set s a (slice_index_or s a 0 - x)) in
    omega (arith, sum_lowered s a x ka enough, sum_raised t b x k)
transfer_counts s a b x false short e f = refl

-- what one operation puts in and takes out
counts : (s : List ℕ) (op : BankOp) → sum (bank_next s op) + taken_out op (bank_reply s op) ≡ sum s + put_in op (bank_reply s op)
counts s (Deposit a x) = deposit_counts s a x (is_account s a) (nat_lt greatest_total (sum s + x)) refl
counts s (Withdraw a x) = withdraw_counts s a x (is_account s a) (is_short s a x) refl refl
counts s (Transfer a b x) = transfer_counts s a b x (is_account s a && is_account s b) (is_short s a x) refl refl

pub total_law : TotalLaw
total_law s [] = refl
total_law s (op ∷ ops) = omega (arith, counts s op, total_law (bank_next s op) ops)

pub transfer_law : TransferLaw
transfer_law s a b x = omega (arith, counts s (Transfer a b x))

refused_keeps : (reply : BankReply) (done s : List ℕ) → reply ≢ Done → if_done reply done s ≡ s
refused_keeps Done done s h = absurd (h refl)
refused_keeps Over done s h = refl
refused_keeps TooLittle done s h = refl
refused_keeps NoAccount done s h = refl
refused_keeps (Amount n) done s h = refl

pub refused_law : RefusedLaw
refused_law s op h = refused_keeps (bank_reply s op) _ s h

-- a deposit that is done leaves a total of 64 bits
within : (s : List ℕ) (op : BankOp) → sum s ≤ greatest_total → sum s + put_in op (bank_reply s op) ≤ greatest_total
within s (Deposit a x) h = by (is_account s a) (nat_lt greatest_total (sum s + x)) refl
  where
    by : (here over : Bool) → over ≡ nat_lt greatest_total (sum s + x) → sum s + put_in (Deposit a x) (cond here (cond over Over Done) NoAccount) ≤ greatest_total
    by true true e = omega (arith, h)
    by true false e = grind (arith, nat_tests)
    by false over e = omega (arith, h)
within s (Withdraw a x) h = omega (arith, h)
within s (Transfer a b x) h = omega (arith, h)

-- an operation keeps a bank a bank
pub IsBank-bank_next : (s : List ℕ) (op : BankOp) → IsBank s → IsBank (bank_next s op)
IsBank-bank_next s op h = record {
  least = omega (arith, length-bank_next s op, h.least);
  greatest = omega (arith, length-bank_next s op, h.greatest);
  total = omega (arith, counts s op, within s op h.total);
}

pub bound_law : BoundLaw
bound_law s [] h = h
bound_law s (op ∷ ops) h = bound_law (bank_next s op) ops (IsBank-bank_next s op h)
