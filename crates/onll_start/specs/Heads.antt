use Rattle.std.specs.Prelude.{ℕ, List, length}
use Rattle.onll_model.specs.declared.call.Call.{Call}
use Rattle.onll_log.specs.declared.head.LogHead.{LogHead}
use Rattle.onll_log.specs.Head.{heads_from}

-- The heads of the logs on which scripts go on.

-- one for each script, of an object of this code whose initial state these bytes say
abbrev pub created_heads : {State Op Query Reply : Type 0} → ℕ → List ℕ → List (List (Call State Op Query Reply)) → List LogHead
created_heads object init scripts = heads_from (length scripts) object init 0 (length scripts)
