use Rattle.std.proofs.Common.{◌≡◌, ◌+◌, drop}
use Rattle.onll_audit.specs.Values.{as_groups}
use Rattle.onll_audit.specs.Verdict.{total_lines}
use Rattle.onll_audit.proofs.auditor.count_lines.Given as goal

abbrev pub invariant-loop-i : goal.invariant-loop-i
invariant-loop-i l = l.count + total_lines (drop l.i (as_groups l.groups)) ≡ total_lines (as_groups l.groups)
