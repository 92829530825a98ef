use Rattle.std.proofs.Common.{◌≤◌, List, [], ◌∷◌, length, arith}
use Rattle.onll_model.specs.declared.call.Call.{Call}
use Rattle.onll_model.specs.declared.call.Call.TheVariants.{Update, Ask}
use Rattle.onll_model.specs.Calls.{updates_in}

-- A script has no more updates than calls.

pub updates_low : {State Op Query Reply : Type 0} (calls : List (Call State Op Query Reply)) → updates_in calls ≤ length calls
updates_low [] = omega arith
updates_low (Update op ∷ calls) = let h = updates_low calls in omega arith
updates_low (Ask query ∷ calls) = let h = updates_low calls in omega arith
