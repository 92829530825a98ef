use Rattle.std.proofs.Common.{◌≡◌, ◌+◌, drop}
use Rattle.onll_log.specs.Grammar.{lines_in}
use Rattle.onll_log.specs.Decoded.{segments_in}
use Rattle.onll_log.proofs.decoded.lines_of.Given as goal

abbrev pub invariant-loop-entry : goal.invariant-loop-entry
invariant-loop-entry l = l.lines + lines_in (segments_in (drop l.entry-index l.entries)) ≡ lines_in (segments_in l.entries)
