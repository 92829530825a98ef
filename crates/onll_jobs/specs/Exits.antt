-- How the putting of a text ends a call.

use Rattle.std.specs.Prelude.{ℕ, List, ◌≡◌}
use Rattle.onll_outside.specs.Views.{SinkView, Puts, PutsFront, Rose}
use Rattle.onll_task.specs.declared.ending.Ending.{Ending}
use Rattle.onll_task.specs.declared.ending.Exit.{Exit}
use Rattle.onll_task.specs.declared.ending.Exit.TheVariants.{Said, SinkFault, NoMemory}

-- how the putting of a text with this ending ends the call
abbrev pub PutExits : SinkView → SinkView → Ending → List ℕ → Exit → Type 0
PutExits old new ending text (Said said) = (said ≡ ending) × Puts old new text × (new.faults ≡ old.faults)
PutExits old new ending text SinkFault = PutsFront old new text × Rose old.faults new.faults
PutExits old new ending text NoMemory = PutsFront old new text × (new.faults ≡ old.faults)
