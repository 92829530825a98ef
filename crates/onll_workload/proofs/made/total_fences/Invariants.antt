use Rattle.std.proofs.Common.{◌≡◌, take, sum_by}
use Rattle.onll_workload.proofs.made.total_fences.Given as goal

-- those of the logs so far
abbrev pub invariant-loop-log : goal.invariant-loop-log
invariant-loop-log l = l.fences ≡ sum_by (λ log. log.fences) (take l.log-index l.logs)
