-- A workload of a bank: the script of each thread, by draws from a seed.

use Rattle.std.specs.Prelude.{ℕ, zero, suc, ◌+◌, ◌*◌, ◌/◌, ◌%◌, ◌^◌, ◌==◌, ◌≤◌, List, [], ◌∷◌, ◌++◌, if◌then◌else◌, replicate}
use Rattle.onll_model.specs.Limits.{most_threads, most_updates}
use Rattle.onll_model.specs.declared.call.Call.TheVariants.{Update, Ask}
use Rattle.onll_bank.specs.declared.operation.BankOp.{BankOp}
use Rattle.onll_bank.specs.declared.operation.BankOp.TheVariants.{Transfer}
use Rattle.onll_bank.specs.declared.operation.BankQuery.TheVariants.{Total}
use Rattle.onll_workload.specs.declared.workload.Workload.{Workload}
use Rattle.onll_text.specs.BankText.{BankCall}

-- as many threads, and updates of each, as a run may have
pub record IsWorkload (w : Workload) : Type 0 where
  pub some_thread : 1 ≤ w.threads
  pub few_threads : w.threads ≤ most_threads
  pub few_updates : w.updates ≤ most_updates

-- the accounts of the bank, and the balance of each
abbrev pub accounts : ℕ
accounts = 64

abbrev pub balance : ℕ
balance = 1000

-- the bank before any call
abbrev pub first_bank : List ℕ
first_bank = replicate accounts balance

-- ---- draws
-- the number that a draw leaves
abbrev pub drawn : ℕ → ℕ
drawn x = (x * 6364136223846793005 + 1442695040888963407) % 2 ^ 64

-- what is drawn with it
abbrev pub high_bits : ℕ → ℕ
high_bits x = x / 2 ^ 33

-- the transfer of three draws: between two accounts, of less than 100
abbrev pub transfer_of : (d₁ d₂ d₃ : ℕ) → BankOp
transfer_of d₁ d₂ d₃ = Transfer (high_bits d₁ % 64) (high_bits d₂ % 64) (high_bits d₃ % 100)

abbrev pub transfer_from : ℕ → BankOp
transfer_from x = transfer_of (drawn x) (drawn (drawn x)) (drawn (drawn (drawn x)))

-- the number that three draws leave
abbrev pub after_transfer : ℕ → ℕ
after_transfer x = drawn (drawn (drawn x))

-- ---- scripts
-- after every fourth update the total is read
abbrev pub reads_after : ℕ → List BankCall
reads_after made = if made % 4 == 0 then Ask Total ∷ [] else []

-- the calls of so many updates that are left, after so many that were made, by draws from this number
abbrev pub calls_from : (left made x : ℕ) → List BankCall
calls_from zero made x = []
calls_from (suc left) made x = (Update (transfer_from x) ∷ reads_after (made + 1)) ++ calls_from left (made + 1) (after_transfer x)

-- the number that a thread draws from at first
abbrev pub first_number : Workload → ℕ → ℕ
first_number w t = (w.seed + t) % 2 ^ 64

-- the script of a thread
abbrev pub script_of : Workload → ℕ → List BankCall
script_of w t = calls_from w.updates 0 (first_number w t)

-- the scripts of so many threads, the first of them thread t
abbrev pub scripts_from : Workload → (left t : ℕ) → List (List BankCall)
scripts_from w zero t = []
scripts_from w (suc left) t = script_of w t ∷ scripts_from w left (t + 1)

abbrev pub scripts_of : Workload → List (List BankCall)
scripts_of w = scripts_from w w.threads 0

-- the lines of each log's device: the header's, and those of the longest entry for each update
abbrev pub device_lines : Workload → ℕ
device_lines w = 1 + (w.threads + 1) * w.updates
