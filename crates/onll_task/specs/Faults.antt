-- What is said of logs that give no state.

use Rattle.std.specs.Prelude.{ℕ, List, [], ◌∷◌, codes, decimal}
use Rattle.onll_words.specs.Texts.{line_text}
use Rattle.onll_merge.specs.declared.fault.RecoverFault.{RecoverFault}
use Rattle.onll_merge.specs.declared.fault.RecoverFault.TheVariants as merging
use Rattle.onll_merge.specs.declared.fault.StateFault.{StateFault}
use Rattle.onll_merge.specs.declared.fault.StateFault.TheVariants.{NotLog, NotMerged, NotOperation, NoMemory}

-- the line that says why logs do not merge; want of memory, which no merge gives, has none
abbrev pub merging_line : RecoverFault → List ℕ
merging_line (merging.NotThisRun log) = line_text (codes "log" ∷ decimal log ∷ codes "not" ∷ codes "of" ∷ codes "this" ∷ codes "run" ∷ [])
merging_line (merging.Disorder log entry) = line_text (codes "log" ∷ decimal log ∷ codes "entry" ∷ decimal entry ∷ codes "disorder" ∷ [])
merging_line (merging.Clash place log other) =
    line_text (codes "place" ∷ decimal place ∷ codes "differs" ∷ codes "in" ∷ codes "logs" ∷ decimal log ∷ codes "and" ∷ decimal other ∷ [])
merging_line (merging.Gap place) = line_text (codes "place" ∷ decimal place ∷ codes "missing" ∷ [])
merging_line (merging.Stray place thread number wanted) =
    line_text (codes "place" ∷ decimal place ∷ codes "thread" ∷ decimal thread ∷ codes "number" ∷ decimal number
    ∷ codes "wanted" ∷ decimal wanted ∷ [])
merging_line merging.NoMemory = []

-- the line that says why logs give no state; want of memory, which no images give, has none
abbrev pub fault_line : StateFault → List ℕ
fault_line (NotLog log) = line_text (codes "log" ∷ decimal log ∷ codes "not" ∷ codes "a" ∷ codes "log" ∷ [])
fault_line (NotMerged fault) = merging_line fault
fault_line (NotOperation place) = line_text (codes "place" ∷ decimal place ∷ codes "not" ∷ codes "an" ∷ codes "operation" ∷ [])
fault_line NoMemory = []
