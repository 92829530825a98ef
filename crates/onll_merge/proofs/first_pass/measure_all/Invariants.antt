use Rattle.std.proofs.Common.{◌≡◌, ◌++◌, drop, map, max}
use Rattle.std.specs.List.{AllByRecursion}
use Rattle.onll_merge.specs.Merge.{AllRise, disorder, top_of}
use Rattle.onll_merge.specs.Recovered.{log_counts}
use Rattle.onll_merge.specs.Standing.{contents_under}
use Rattle.onll_merge.proofs.first_pass.measure_all.Given as goal

-- what is found in the logs that are left is what is found in all
abbrev pub invariant-loop-log : goal.invariant-loop-log
invariant-loop-log l =
    let all = contents_under l.fn.cursors in
    let left = drop l.log all in
    record {
      same : contents_under l.cursors ≡ all;
      first : AllByRecursion (λ c. c.passed ≡ 0) l.cursors;
      order : disorder l.log left ≡ disorder 0 all;
      rise : AllRise left → AllRise all;
      counts : l.logs.items ++ map log_counts left ≡ map log_counts all;
      top : max l.top (top_of left) ≡ top_of all;
    }
