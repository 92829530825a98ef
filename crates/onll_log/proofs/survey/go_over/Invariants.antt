use Rattle.std.proofs.Common.{◌≡◌, ◌-◌, ◌≤◌, drop, length, max}
use Rattle.std.specs.Option.{option_or}
use Rattle.onll_log.specs.Survey.{disorder_from, top_in_log}
use Rattle.onll_log.proofs.survey.go_over.Given as goal

-- what is found in the entries so far and in those that are left is what is found in all
abbrev pub invariant-loop-entry : goal.invariant-loop-entry
invariant-loop-entry l =
    let entries = l.fn.cursor.content.entries in
    record {
      most : l.cursor.passed ≤ length entries;
      same : l.cursor.content ≡ l.fn.cursor.content;
      order : option_or l.disorder (disorder_from l.cursor.passed l.last (drop l.cursor.passed entries)) ≡ disorder_from 0 0 entries;
      top : max l.top (top_in_log (drop l.cursor.passed entries)) ≡ top_in_log entries;
    }

abbrev pub decreases-loop-entry : goal.decreases-loop-entry
decreases-loop-entry l = length l.cursor.content.entries - l.cursor.passed
