-- The core that goes on from images, or the first reason why there is none.
use Rattle.std.specs.Prelude.{ℕ, List, length, map, Result, Ok, Err}
use Rattle.onll_model.specs.declared.call.Call.{Call}
use Rattle.onll_model.specs.Object.{Behaviour}
use Rattle.onll_log.specs.declared.head.LogHead.{LogHead}
use Rattle.onll_merge.specs.Merge.{unless}
use Rattle.onll_merge.specs.Recovered.{log_counts}
use Rattle.onll_merge.specs.Resumed.{entries_of}
use Rattle.onll_start.specs.declared.fault.ResumeFault.{ResumeFault}
use Rattle.onll_start.specs.Heads.{created_heads}
use Rattle.onll_start.specs.Start.{Found, found_in, too_many}
use Rattle.onll_core.specs.Core.{CoreState}
use Rattle.onll_core.specs.Resumed.{resumed_core}

abbrev pub going_on : {State Op Query Reply : Type 0} → State → List LogHead → List (List (Call State Op Query Reply))
    → Result Found ResumeFault → Result (CoreState State Op Query Reply) ResumeFault
going_on initial heads scripts (Ok found) =
    unless (too_many (length heads) found.nodes 0 (map log_counts found.logs) scripts)
    (resumed_core initial found.nodes heads (entries_of found.logs) scripts)
going_on initial heads scripts (Err fault) = Err fault

-- The core of these scripts over an object of this code, whose initial state these bytes say, that goes on from the images of an
-- earlier generation's logs.
abbrev pub resumed : {State Op Query Reply : Type 0} → Behaviour State Op Query Reply → ℕ → List ℕ → State → List (List (List ℕ))
    → List (List (Call State Op Query Reply)) → Result (CoreState State Op Query Reply) ResumeFault
resumed b code init initial images scripts =
    going_on initial (created_heads code init scripts) scripts (found_in b (created_heads code init scripts) images)
