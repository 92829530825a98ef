-- What the scripts of a workload that were done sum up to.

use Rattle.std.proofs.Common.{ℕ, zero, suc, ◌≡◌, ◌+◌, ◌*◌, ◌/◌, ◌≤◌, List, [], ◌∷◌, length, map, sum_by, refl, sym, ap, ◌∙◌, subst, arith}
use Rattle.std.specs.List.{All, AllByRecursion}
use Rattle.std.proofs.lemmas.List.{length-map}
use Rattle.std.proofs.lemmas.List.Elements.{All-nil, All-cons}
use Rattle.std.proofs.lemmas.List.Sums.{sum_by-cons}
use Rattle.std.proofs.lemmas.Nat.{mul-le}
use Rattle.onll_model.specs.Limits.{most_updates}
use Rattle.onll_model.specs.Calls.{updates_in, reads_in}
use Rattle.onll_workload.specs.declared.workload.Workload.{Workload}
use Rattle.onll_text.specs.BankText.{BankCall}
use Rattle.onll_workload.specs.Workload.{IsWorkload, scripts_from, scripts_of}
use Rattle.onll_workload.proofs.Scripts.{updates_of_script, updates_of_scripts, reads_of_scripts, length-scripts}

pub sum_mapped : {A B : Type 0} (f : B → ℕ) (g : A → B) (xs : List A) → sum_by f (map g xs) ≡ sum_by (λ (x : A). f (g x)) xs
sum_mapped f g [] = refl
sum_mapped {A} f g (x ∷ xs) =
    let here = sum_by-cons f (g x) (map g xs) in
    let there = sum_by-cons (λ (y : A). f (g y)) x xs in
    let rest = sum_mapped f g xs in
    omega (arith, here, there, rest)

all_mapped : {A B : Type 0} (P : B → Type 0) (g : A → B) (xs : List A) → AllByRecursion P (map g xs) → All (λ (x : A). P (g x)) xs
all_mapped {A} P g [] h = All-nil (λ (x : A). P (g x))
all_mapped {A} P g (x ∷ xs) h = All-cons (λ (y : A). P (g y)) x xs h.0 (all_mapped P g xs h.1)

-- few updates
abbrev pub IsShort : List BankCall → Type 0
IsShort calls = updates_in calls ≤ most_updates

pub scripts_short : (w : Workload) (left t : ℕ) → IsWorkload w → AllByRecursion IsShort (scripts_from w left t)
scripts_short w zero t h = tt
scripts_short w (suc left) t h = (subst (λ n. n ≤ most_updates) (sym (updates_of_script w t)) h.few_updates, scripts_short w left (t + 1) h)

-- The scripts that were done are those of the workload.
module _ {V : Type 0} (items : V → List BankCall) (w : Workload) (valid : IsWorkload w) (threads : List V) (done : map items threads ≡ scripts_of w) where
  pub each_short : All (λ (v : V). updates_in (items v) ≤ most_updates) threads
  each_short = all_mapped IsShort items threads (subst (AllByRecursion IsShort) (sym done) (scripts_short w w.threads 0 valid))

  pub threads_are : length threads ≡ w.threads
  threads_are = sym (length-map threads items) ∙ ap length done ∙ length-scripts w w.threads 0

  pub updates_are : sum_by (λ (v : V). updates_in (items v)) threads ≡ w.threads * w.updates
  updates_are = sym (sum_mapped updates_in items threads) ∙ ap (sum_by updates_in) done ∙ updates_of_scripts w w.threads 0

  pub reads_are : sum_by (λ (v : V). reads_in (items v)) threads ≡ w.threads * (w.updates / 4)
  reads_are = sym (sum_mapped reads_in items threads) ∙ ap (sum_by reads_in) done ∙ reads_of_scripts w w.threads 0

-- they are few
pub updates_fit : (w : Workload) → IsWorkload w → w.threads * w.updates ≤ 65536
updates_fit w h = mul-le w.threads w.updates 16 4096 h.few_threads h.few_updates

pub reads_fit : (w : Workload) → IsWorkload w → w.threads * (w.updates / 4) ≤ 65536
reads_fit w h = mul-le w.threads (w.updates / 4) 16 4096 h.few_threads (let few = h.few_updates in omega (arith, few))
