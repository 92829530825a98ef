-- What is said where a call stops.

use Rattle.std.specs.Prelude.{ℕ, List}
use Rattle.onll_task.specs.declared.ending.Ending.{Ending}
use Rattle.onll_task.specs.declared.answer.Stop.{Stop}
use Rattle.onll_task.specs.declared.answer.Stop.TheVariants.{Says, NoMemory}

-- what is said where a call stops, if anything, has this fact
abbrev pub StopSays : Stop → (Ending → List ℕ → Type 0) → Type 0
StopSays (Says ending text) P = P ending text.items
StopSays NoMemory P = Unit {0}
