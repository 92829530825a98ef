use Rattle.std.proofs.Common.{◌≡◌, drop}
use Rattle.std.specs.Option.{option_or}
use Rattle.onll_merge.specs.Merge.{clash_at, node_in_logs}
use Rattle.onll_merge.specs.Standing.{contents_under, StandBelow, clash_with, held_node}
use Rattle.onll_merge.proofs.second_pass.node_of_place.Given as goal

-- what is found in the logs so far and in those that are left is what is found in all
abbrev pub invariant-loop-log : goal.invariant-loop-log
invariant-loop-log l =
    let logs = contents_under l.fn.readers in
    record {
      clash : clash_with l.found l.log (drop l.log logs) l.place ≡ clash_at logs l.place;
      node : option_or (held_node l.found) (node_in_logs (drop l.log logs) l.place) ≡ node_in_logs logs l.place;
      same : contents_under l.readers ≡ logs;
      below : StandBelow l.place l.readers;
    }
