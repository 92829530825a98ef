use Rattle.std.proofs.Common.{◌≡◌, ◌-◌, length}
use Rattle.onll_merge.specs.Standing.{StandsBelow}
use Rattle.onll_merge.proofs.second_pass.pass_below.Given as goal

abbrev pub invariant-loop-entry : goal.invariant-loop-entry
invariant-loop-entry l = record {
  same : l.cursor.content ≡ l.fn.cursor.content;
  below : StandsBelow l.place l.cursor;
}

abbrev pub decreases-loop-entry : goal.decreases-loop-entry
decreases-loop-entry l = length l.cursor.content.entries - l.cursor.passed
