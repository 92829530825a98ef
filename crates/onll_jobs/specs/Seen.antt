-- What a call was handed, and what it left.

use Rattle.std.specs.Prelude.{ℕ, List}
use Rattle.onll_outside.specs.Views.{StoreView, SinkView}

pub record Seen : Type 0 where
  pub words : List (List ℕ)
  pub store : StoreView
  pub store_after : StoreView
  pub sink : SinkView
  pub sink_after : SinkView

abbrev pub seen_by : List (List ℕ) → StoreView → StoreView → SinkView → SinkView → Seen
seen_by words store store_after sink sink_after =
    record { words = words; store = store; store_after = store_after; sink = sink; sink_after = sink_after }
