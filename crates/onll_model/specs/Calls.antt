use Rattle.std.specs.Prelude.{ℕ, suc, List, [], ◌∷◌}
use Rattle.onll_model.specs.declared.call.Call.{Call}
use Rattle.onll_model.specs.declared.call.Call.TheVariants.{Update, Ask}

-- How many of these calls are updates, and how many are reads.

abbrev pub updates_in : {State Op Query Reply : Type 0} → List (Call State Op Query Reply) → ℕ
updates_in [] = 0
updates_in (Update op ∷ calls) = suc (updates_in calls)
updates_in (Ask query ∷ calls) = updates_in calls

abbrev pub reads_in : {State Op Query Reply : Type 0} → List (Call State Op Query Reply) → ℕ
reads_in [] = 0
reads_in (Update op ∷ calls) = reads_in calls
reads_in (Ask query ∷ calls) = suc (reads_in calls)
