use Rattle.std.proofs.Common.{◌≡◌, take, sum_by}
use Rattle.onll_model.specs.Calls.{updates_in, reads_in}
use Rattle.onll_workload.proofs.made.total_calls.Given as goal

-- those of the scripts so far
abbrev pub invariant-loop-done : goal.invariant-loop-done
invariant-loop-done l = record {
  updates : l.updates ≡ sum_by (λ done. updates_in done.script.items) (take l.done-index l.threads);
  reads : l.reads ≡ sum_by (λ done. reads_in done.script.items) (take l.done-index l.threads);
}
