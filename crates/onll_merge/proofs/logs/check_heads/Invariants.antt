use Rattle.std.proofs.Common.{◌≡◌, drop}
use Rattle.onll_merge.specs.Merge.{contents_in, foreign}
use Rattle.onll_merge.proofs.logs.check_heads.Given as goal

abbrev pub invariant-loop-log : goal.invariant-loop-log
invariant-loop-log l = foreign l.log (contents_in (drop l.log l.logs)) (drop l.log l.heads) ≡ foreign 0 (contents_in l.logs) l.heads
