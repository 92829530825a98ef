-- A core goes on where scripts do, from what images give to them.
use Rattle.std.specs.Prelude.{ℕ, ◌≡◌, List, Ok, Err}
use Rattle.onll_model.specs.declared.call.Call.{Call}
use Rattle.onll_model.specs.Object.{Behaviour}
use Rattle.onll_merge.specs.Resumed.{entries_of}
use Rattle.onll_start.specs.declared.fault.ResumeFault.{ResumeFault}
use Rattle.onll_start.specs.Heads.{created_heads}
use Rattle.onll_start.specs.Start.{Found, base_in}
use Rattle.onll_core.specs.Resume.{resumed}
use Rattle.onll_core.specs.Resumed.{resumed_core}

module _ {State Op Query Reply : Type 0} (b : Behaviour State Op Query Reply) where
  -- a core goes on from images where scripts do, and is refused where they are, for the same reason
  abbrev pub SameRefusalLaw : Type 0
  SameRefusalLaw = (code : ℕ) (init : List ℕ) (initial : State) (images : List (List (List ℕ)))
      (scripts : List (List (Call State Op Query Reply))) (fault : ResumeFault)
      → base_in b (created_heads code init scripts) scripts images ≡ Err fault → resumed b code init initial images scripts ≡ Err fault

  abbrev pub SameBaseLaw : Type 0
  SameBaseLaw = (code : ℕ) (init : List ℕ) (initial : State) (images : List (List (List ℕ)))
      (scripts : List (List (Call State Op Query Reply))) (found : Found)
      → base_in b (created_heads code init scripts) scripts images ≡ Ok found
      → resumed b code init initial images scripts
      ≡ Ok (resumed_core initial found.nodes (created_heads code init scripts) (entries_of found.logs) scripts)
