use Rattle.std.proofs.Common.{◌≡◌, drop}
use Rattle.onll_merge.specs.Merge.{foreign}
use Rattle.onll_merge.specs.Standing.{contents_under}
use Rattle.onll_merge.proofs.first_pass.check_heads.Given as goal

abbrev pub invariant-loop-log : goal.invariant-loop-log
invariant-loop-log l = foreign l.log (contents_under (drop l.log l.cursors)) (drop l.log l.heads) ≡ foreign 0 (contents_under l.cursors) l.heads
