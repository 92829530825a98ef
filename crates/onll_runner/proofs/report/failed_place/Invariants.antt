use Rattle.std.proofs.Common.{◌≡◌, drop}
use Rattle.onll_run.specs.Outcomes.{failed_in}
use Rattle.onll_runner.proofs.report.failed_place.Given as goal

-- the outcomes that are left have the place that all have
abbrev pub invariant-loop-end : goal.invariant-loop-end
invariant-loop-end g l = failed_in (drop l.end-index l.ends) ≡ failed_in l.ends
