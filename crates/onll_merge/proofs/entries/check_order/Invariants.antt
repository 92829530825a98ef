use Rattle.std.proofs.Common.{◌≡◌, drop}
use Rattle.onll_model.specs.Segment.{Rises}
use Rattle.onll_log.specs.Decoded.{segments_in}
use Rattle.onll_log.specs.Survey.{disorder_from}
use Rattle.onll_merge.proofs.entries.check_order.Given as goal

abbrev pub invariant-loop-before : goal.invariant-loop-before
invariant-loop-before l = record {
  order : disorder_from l.before l.last (segments_in (drop l.before l.entries)) ≡ disorder_from 0 0 (segments_in l.entries);
  rises : Rises l.last (segments_in (drop l.before l.entries)) → Rises 0 (segments_in l.entries);
}
