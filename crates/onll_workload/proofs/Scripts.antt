-- The scripts of a workload: how many updates and reads they have, and that all their updates are transfers.

use Rattle.std.proofs.Common.{ℕ, zero, suc, ◌≡◌, ◌+◌, ◌*◌, ◌/◌, ◌%◌, ◌==◌, Bool, true, false, if◌then◌else◌, List, [], ◌∷◌, ◌++◌, length, sum, sum_by, refl, ap, ◌∙◌, arith}
use Rattle.std.specs.List.{AllByRecursion}
use Rattle.std.proofs.lemmas.Bool.Decides.{nat_tests}
use Rattle.std.proofs.lemmas.List.Sums.{sum_by-cons}
use Rattle.onll_words.specs.declared.line.OpRow.{OpRow}
use Rattle.onll_model.specs.declared.call.Call.TheVariants.{Update, Ask}
use Rattle.onll_model.specs.Calls.{updates_in, reads_in}
use Rattle.onll_model.specs.Trace.{after_row}
use Rattle.onll_bank.specs.declared.operation.BankQuery.TheVariants.{Total}
use Rattle.onll_bank.specs.Object.{bank}
use Rattle.onll_bank.proofs.Totals.{transfer_law}
use Rattle.onll_workload.specs.declared.workload.Workload.{Workload}
use Rattle.onll_text.specs.BankText.{BankCall}
use Rattle.onll_workload.specs.Workload.{high_bits, drawn, after_transfer, calls_from, script_of, first_number, scripts_from}
use Rattle.onll_model.proofs.LegalRows.{HaveRows}

-- ---- how many calls
abbrev pub read_if : Bool → List BankCall
read_if q = if q then Ask Total ∷ [] else []

abbrev one_if : Bool → ℕ
one_if q = if q then 1 else 0

updates_after : (q : Bool) (rest : List BankCall) → updates_in (read_if q ++ rest) ≡ updates_in rest
updates_after true rest = refl
updates_after false rest = refl

reads_more : (q : Bool) (rest : List BankCall) → reads_in (read_if q ++ rest) ≡ one_if q + reads_in rest
reads_more true rest = omega arith
reads_more false rest = omega arith

pub updates_of_calls : (left made x : ℕ) → updates_in (calls_from left made x) ≡ left
updates_of_calls zero made x = refl
updates_of_calls (suc left) made x =
    ap suc (updates_after ((made + 1) % 4 == 0) (calls_from left (made + 1) (after_transfer x)) ∙ updates_of_calls left (made + 1) (after_transfer x))

-- a quarter more after every fourth
quarter : (n : ℕ) (q : Bool) → q ≡ ((n + 1) % 4 == 0) → (n + 1) / 4 ≡ n / 4 + one_if q
quarter n true e = grind (arith, nat_tests)
quarter n false e = grind (arith, nat_tests)

reads_of_calls : (left made x : ℕ) → reads_in (calls_from left made x) + made / 4 ≡ (made + left) / 4
reads_of_calls zero made x = let same : made ≡ made + 0 = omega arith in (let none : 0 + made / 4 ≡ made / 4 = omega arith in none) ∙ ap (λ n. n / 4) same
reads_of_calls (suc left) made x =
    let rest : List BankCall = calls_from left (made + 1) (after_transfer x) in
    let more = reads_more ((made + 1) % 4 == 0) rest in
    let next = quarter made ((made + 1) % 4 == 0) refl in
    let same : made + 1 + left ≡ made + suc left = omega arith in
    let all = reads_of_calls left (made + 1) (after_transfer x) ∙ ap (λ n. n / 4) same in
    omega (arith, more, next, all)

pub updates_of_script : (w : Workload) (t : ℕ) → updates_in (script_of w t) ≡ w.updates
updates_of_script w t = updates_of_calls w.updates 0 (first_number w t)

reads_of_script : (w : Workload) (t : ℕ) → reads_in (script_of w t) ≡ w.updates / 4
reads_of_script w t =
    let all = reads_of_calls w.updates 0 (first_number w t) in
    let same : (0 + w.updates) / 4 ≡ w.updates / 4 = let e : 0 + w.updates ≡ w.updates = omega arith in ap (λ n. n / 4) e in
    omega (arith, all, same)

pub updates_of_scripts : (w : Workload) (left t : ℕ) → sum_by updates_in (scripts_from w left t) ≡ left * w.updates
updates_of_scripts w zero t = omega arith
updates_of_scripts w (suc left) t =
    omega (arith, sum_by-cons updates_in (script_of w t) (scripts_from w left (t + 1)), updates_of_script w t, updates_of_scripts w left (t + 1))

pub reads_of_scripts : (w : Workload) (left t : ℕ) → sum_by reads_in (scripts_from w left t) ≡ left * (w.updates / 4)
reads_of_scripts w zero t = omega arith
reads_of_scripts w (suc left) t =
    omega (arith, sum_by-cons reads_in (script_of w t) (scripts_from w left (t + 1)), reads_of_script w t, reads_of_scripts w left (t + 1))

pub length-scripts : (w : Workload) (left t : ℕ) → length (scripts_from w left t) ≡ left
length-scripts w zero t = refl
length-scripts w (suc left) t = ap suc (length-scripts w left (t + 1))

-- what is no update is a read
pub calls_split : (calls : List BankCall) → updates_in calls + reads_in calls ≡ length calls
calls_split [] = refl
calls_split (Update op ∷ calls) = omega (arith, calls_split calls)
calls_split (Ask query ∷ calls) = omega (arith, calls_split calls)

-- ---- transfers
-- a row that keeps the total of any bank
abbrev pub KeepsTotal : OpRow → Type 0
KeepsTotal row = (s : List ℕ) → sum (after_row bank s (bank.op_at row)) ≡ sum s

rows_after : (q : Bool) (rest : List BankCall) → HaveRows bank KeepsTotal rest → HaveRows bank KeepsTotal (read_if q ++ rest)
rows_after true rest h = h
rows_after false rest h = h

rows_of_calls : (left made x : ℕ) → HaveRows bank KeepsTotal (calls_from left made x)
rows_of_calls zero made x = tt
rows_of_calls (suc left) made x = (
  λ s. transfer_law s (high_bits (drawn x) % 64) (high_bits (drawn (drawn x)) % 64) (high_bits (after_transfer x) % 100),
  rows_after ((made + 1) % 4 == 0) (calls_from left (made + 1) (after_transfer x)) (rows_of_calls left (made + 1) (after_transfer x)),
)

pub rows_of_scripts : (w : Workload) (left t : ℕ) → AllByRecursion (HaveRows bank KeepsTotal) (scripts_from w left t)
rows_of_scripts w zero t = tt
rows_of_scripts w (suc left) t = (rows_of_calls w.updates 0 (first_number w t), rows_of_scripts w left (t + 1))
