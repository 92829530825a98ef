use Rattle.std.proofs.Common.{◌≡◌, max, drop}
use Rattle.onll_log.specs.Decoded.{segments_in}
use Rattle.onll_log.specs.Survey.{top_in_log}
use Rattle.onll_merge.proofs.entries.top_place.Given as goal

abbrev pub invariant-loop-entry : goal.invariant-loop-entry
invariant-loop-entry l = max l.top (top_in_log (segments_in (drop l.entry-index l.entries))) ≡ top_in_log (segments_in l.entries)
