-- The texts that are no reports, and the statuses.

use Rattle.std.specs.Prelude.{ℕ, List, ◌++◌, codes, decimal}
use Rattle.onll_task.specs.declared.ending.Ending.{Ending}
use Rattle.onll_task.specs.declared.ending.Ending.TheVariants.{Done, Usage, Refused, BadLog, ReadFault, WriteFault, Faulty, Judged}
use Rattle.onll_task.specs.declared.ending.Exit.{Exit}
use Rattle.onll_task.specs.declared.ending.Exit.TheVariants.{Said, SinkFault, NoMemory}
use Rattle.onll_text.specs.Refusal.{Refusal, reason_text}

-- the line of a refused text
abbrev pub refusal_text : List ℕ → Refusal → List ℕ
refusal_text name refusal =
    codes "refused " ++ name ++ codes " " ++ decimal refusal.line ++ codes " " ++ reason_text refusal.reason ++ codes "\n"

-- the line of a read that failed
abbrev pub read_fault_text : List ℕ → List ℕ
read_fault_text name = codes "read fault " ++ name ++ codes "\n"

-- the line of a write that failed
abbrev pub write_fault_text : List ℕ → List ℕ
write_fault_text name = codes "write fault " ++ name ++ codes "\n"

-- the exit status of an ending
abbrev pub status_of : Ending → ℕ
status_of Done = 0
status_of Usage = 2
status_of Refused = 3
status_of BadLog = 4
status_of ReadFault = 5
status_of WriteFault = 6
status_of Faulty = 7
status_of Judged = 8

-- the exit status of a call
abbrev pub exit_status : Exit → ℕ
exit_status (Said ending) = status_of ending
exit_status SinkFault = 6
exit_status NoMemory = 9
