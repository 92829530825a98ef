-- Scripts that are read, one after the other.

use Rattle.std.specs.Prelude.{ℕ, List}
use Rattle.onll_model.specs.declared.call.Call.{Call}
use Rattle.onll_text.specs.Wording.{Wording}
use Rattle.onll_text.specs.Script.{script_of}
use Rattle.onll_outside.specs.Views.{StoreView}
use Rattle.onll_task.specs.Doing.{Stage, each_stage, text_stage}

-- scripts are read, one after the other
abbrev pub scripts_stage : {State Op Query Reply : Type 0} → Wording State Op Query Reply → List (List ℕ)
    → Stage (List (List (Call State Op Query Reply)))
scripts_stage w names = each_stage (λ name. text_stage name (script_of w)) names

-- a script is read from each of these files
abbrev pub ReadScripts : {State Op Query Reply : Type 0} → Wording State Op Query Reply → StoreView → List (List ℕ)
    → List (List (Call State Op Query Reply)) → Type 0
ReadScripts w store names scripts = (scripts_stage w names).known store scripts
