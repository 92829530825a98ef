-- What becomes of a refusal of images where a state is asked for.
use Rattle.onll_merge.specs.declared.fault.RecoverFault.TheVariants.{NoMemory}
use Rattle.onll_merge.specs.declared.fault.ImagesFault.{ImagesFault}
use Rattle.onll_merge.specs.declared.fault.ImagesFault.TheVariants.{NotLog, Recover}
use Rattle.onll_merge.specs.declared.fault.StateFault.{StateFault}
use Rattle.onll_merge.specs.declared.fault.StateFault.TheVariants as states

-- why images that do not merge give no state
abbrev pub state_fault : ImagesFault → StateFault
state_fault (NotLog log) = states.NotLog log
state_fault (Recover NoMemory) = states.NoMemory
state_fault (Recover fault) = states.NotMerged fault
