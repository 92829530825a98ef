use Rattle.std.proofs.Common.{◌≡◌, drop, map}
use Rattle.std.specs.Prelude.{max}
use Rattle.onll_shipping.specs.ShipJob.{contents_of, most_entries}
use Rattle.onll_shipping.specs.Turns.{entries_held}
use Rattle.onll_shipping.proofs.turns.most_entries.Given as goal

abbrev pub invariant-loop-image : goal.invariant-loop-image
invariant-loop-image l = max l.most (most_entries (map entries_held (contents_of (drop l.image-index l.images)))) ≡ most_entries (map entries_held (contents_of l.images))
