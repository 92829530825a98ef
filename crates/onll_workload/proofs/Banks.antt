-- The first bank, one account after the other.

use Rattle.std.proofs.Common.{ℕ, zero, suc, ◌≡◌, ◌+◌, ◌*◌, ◌<◌, ◌≤◌, List, ◌∷◌, ◌++◌, length, replicate, slice_index_or, slice_set, sum, refl, ap, ◌∙◌, arith, length-append}
use Rattle.std.proofs.lemmas.Bool.Decides.{nat_tests}
use Rattle.std.proofs.lemmas.List.{length-replicate}
use Rattle.std.proofs.lemmas.List.Sums.{sum_by-append}
use Rattle.std.proofs.lemmas.List.Folds.{sum_by-replicate}
use Rattle.onll_bank.specs.declared.operation.BankOp.TheVariants.{Deposit}
use Rattle.onll_bank.specs.declared.operation.BankReply.{BankReply}
use Rattle.onll_bank.specs.declared.operation.BankReply.TheVariants.{Done}
use Rattle.onll_bank.specs.Bank.{greatest_total, bank_reply, bank_next, raised, if_done}

-- the first accounts have a balance, and the rest have none
abbrev pub filled : (n rest balance : ℕ) → List ℕ
filled n rest balance = replicate n balance ++ replicate rest 0

at_seam : (n balance : ℕ) (ys : List ℕ) → slice_index_or (replicate n balance ++ 0 ∷ ys) n 0 ≡ 0
at_seam zero balance ys = refl
at_seam (suc n) balance ys = at_seam n balance ys

set_seam : (n balance : ℕ) (ys : List ℕ) → slice_set (replicate n balance ++ 0 ∷ ys) n balance ≡ replicate (suc n) balance ++ ys
set_seam zero balance ys = refl
set_seam (suc n) balance ys = ap (λ (l : List ℕ). balance ∷ l) (set_seam n balance ys)

length-filled : (n rest balance : ℕ) → length (filled n rest balance) ≡ n + rest
length-filled n rest balance =
    omega (arith, length-append (replicate n balance) (replicate rest 0), length-replicate n balance, length-replicate {A = ℕ} rest 0)

sum-filled : (n rest balance : ℕ) → sum (filled n rest balance) ≡ n * balance
sum-filled n rest balance =
    omega (arith, sum_by-append (λ (k : ℕ). k) (replicate n balance) (replicate rest 0), sum_by-replicate (λ (k : ℕ). k) n balance, sum_by-replicate {X = ℕ} (λ (k : ℕ). k) rest 0)

is_done : (s : List ℕ) (a x : ℕ) → a < length s → sum s + x ≤ greatest_total → bank_reply s (Deposit a x) ≡ Done
is_done s a x low few = grind (arith, nat_tests)

-- the next account is filled
pub deposited : (n rest : ℕ) (s : List ℕ) → s ≡ filled n (rest + 1) 1000 → n ≤ 1000 → bank_next s (Deposit n 1000) ≡ filled (n + 1) rest 1000
deposited n rest s f few =
    let next : rest + 1 ≡ suc rest = omega arith in
    let e = f ∙ ap (λ k. filled n k 1000) next in
    let long = ap length e ∙ length-filled n (suc rest) 1000 in
    let total = ap sum e ∙ sum-filled n (suc rest) 1000 in
    let done = is_done s n 1000 (omega (arith, long)) (omega (arith, total)) in
    ap (λ (r : BankReply). if_done r (raised s n 1000) s) done
    ∙ ap (λ (l : List ℕ). slice_set l n (slice_index_or l n 0 + 1000)) e
    ∙ ap (λ k. slice_set (filled n (suc rest) 1000) n (k + 1000)) (at_seam n 1000 (replicate rest 0))
    ∙ set_seam n 1000 (replicate rest 0)
    ∙ (let last : suc n ≡ n + 1 = omega arith in ap (λ k. filled k rest 1000) last)
