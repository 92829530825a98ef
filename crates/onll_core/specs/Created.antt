use Rattle.std.specs.Prelude.{ℕ, ◌≤◌, List, length}
use Rattle.onll_model.specs.Limits.{most_threads, most_updates, greatest_code}
use Rattle.std.specs.List.{AllByRecursion}
use Rattle.onll_model.specs.declared.call.Call.{Call}
use Rattle.onll_model.specs.Calls.{updates_in}
use Rattle.onll_start.specs.Heads.{created_heads}
use Rattle.onll_core.specs.Core.{CoreState}
use Rattle.onll_core.specs.First.{first_core}

-- The core that is made of an object, the bytes of its initial state and scripts.

abbrev pub created_core : {State Op Query Reply : Type 0} → State → ℕ → List ℕ → List (List (Call State Op Query Reply))
    → CoreState State Op Query Reply
created_core initial object init scripts = first_core initial (created_heads object init scripts) scripts

-- an object's code and scripts within the limits
pub record IsWithinLimits {State Op Query Reply : Type 0} (object : ℕ) (scripts : List (List (Call State Op Query Reply))) : Type 0 where
  pub code : (1 ≤ object) × (object ≤ greatest_code)
  pub few : length scripts ≤ most_threads
  pub updates : AllByRecursion (λ (script : List (Call State Op Query Reply)). updates_in script ≤ most_updates) scripts
