use Rattle.std.proofs.Common.{◌≡◌, drop}
use Rattle.onll_merge.specs.Merge.{AllRise, contents_in, disorder}
use Rattle.onll_merge.proofs.logs.check_orders.Given as goal

abbrev pub invariant-loop-log : goal.invariant-loop-log
invariant-loop-log l = record {
  order : disorder l.log (contents_in (drop l.log l.logs)) ≡ disorder 0 (contents_in l.logs);
  rise : AllRise (contents_in (drop l.log l.logs)) → AllRise (contents_in l.logs);
}
