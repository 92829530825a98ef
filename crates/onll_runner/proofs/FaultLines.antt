-- A report of a run has a fault line for each thread whose fence failed.

use Rattle.std.proofs.Common.{ℕ, ◌≡◌, ◌+◌, List, [], ◌∷◌, length, length-append, Option, Some, None, refl, arith}
use Rattle.std.proofs.lemmas.List.Sums.{sum_by-cons}
use Rattle.onll_model.specs.declared.call.CallEnd.{CallEnd}
use Rattle.onll_run.specs.Outcomes.{failed_in, fault_in}
use Rattle.onll_task.specs.Running.{broken_threads}
use Rattle.onll_runner.specs.RunReport.{faults_at, fault_lines}

one_line : (t : ℕ) (failed : Option ℕ) → length (faults_at t failed) ≡ fault_in failed
one_line t None = refl
one_line t (Some place) = refl

pub length-fault_lines : {State Op Query Reply : Type 0} (t : ℕ) (ends : List (List (CallEnd State Op Query Reply))) → length (fault_lines t ends) ≡ broken_threads ends
length-fault_lines t [] = refl
length-fault_lines {State} {Op} {Query} {Reply} t (es ∷ ends) =
    let one = one_line t (failed_in es) in
    let rest = length-fault_lines (t + 1) ends in
    let all = length-append (faults_at t (failed_in es)) (fault_lines (t + 1) ends) in
    let sum = sum_by-cons (λ (e : List (CallEnd State Op Query Reply)). fault_in (failed_in e)) es ends in
    omega (arith, one, rest, all, sum)
