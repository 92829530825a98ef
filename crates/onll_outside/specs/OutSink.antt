-- A writer of the system as a sink.

use Rattle.std.specs.Prelude.{ℕ, None}
use Rattle.onll_outside.specs.Views.{SinkView}

-- a writer, and how many puts into it failed
pub record Written (W : Type 0) : Type 0 where
  pub writer : W
  pub faults : ℕ

-- it tells its faults alone
abbrev pub untold_sink : {W : Type 0} → Written W → SinkView
untold_sink s = record { taken = None; faults = s.faults }
