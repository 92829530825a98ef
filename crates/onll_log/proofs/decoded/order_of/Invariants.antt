use Rattle.std.proofs.Common.{◌≡◌, drop, max}
use Rattle.std.specs.Option.{option_or}
use Rattle.onll_log.specs.Decoded.{segments_in}
use Rattle.onll_log.specs.Survey.{disorder_from, top_in_log}
use Rattle.onll_log.proofs.decoded.order_of.Given as goal

-- what is found in the entries so far and in those that are left is what is found in all
abbrev pub invariant-loop-before : goal.invariant-loop-before
invariant-loop-before l = record {
  order : option_or l.disorder (disorder_from l.before l.last (segments_in (drop l.before l.entries))) ≡ disorder_from 0 0 (segments_in l.entries);
  top : max l.top (top_in_log (segments_in (drop l.before l.entries))) ≡ top_in_log (segments_in l.entries);
}
