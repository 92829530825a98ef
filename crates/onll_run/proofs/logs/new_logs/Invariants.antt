use Rattle.std.proofs.Common.{◌≡◌, ◌≤◌, [], None, replicate, vec_capacity}
use Rattle.onll_merge.specs.Merge.{contents_in}
use Rattle.onll_run.proofs.logs.new_logs.Given as goal

abbrev pub invariant-loop : goal.invariant-loop
invariant-loop l = record {
  logs : contents_in l.logs.items ≡ replicate l.counter (record { head = None; entries = [] });
  room : l.count ≤ vec_capacity l.logs;
}
