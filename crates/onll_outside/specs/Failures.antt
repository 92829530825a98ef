-- The last failed call of a store, as its code keeps it.

use Rattle.std.specs.Prelude.{Option, Some, None}
use Rattle.std.specs.String.{string_bytes}
use Rattle.onll_outside.specs.declared.faults.Failure.{Failure}
use Rattle.onll_outside.specs.Views.{Last}

abbrev pub last_of : Option Failure → Option Last
last_of None = None
last_of (Some f) = Some (record { kind = f.kind; name = string_bytes f.name })
