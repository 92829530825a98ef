use Rattle.std.proofs.Common.{◌≡◌, map, take}
use Rattle.onll_shared.specs.Found.{head_held}
use Rattle.onll_shared.proofs.found.heads_of.Given as goal

abbrev pub invariant-loop-log : goal.invariant-loop-log
invariant-loop-log g l = l.heads.items ≡ map head_held (take l.log-index l.logs)
