use Rattle.std.proofs.Common.{◌≡◌, drop}
use Rattle.onll_open.specs.Misfits.{first_old}
use Rattle.onll_open.proofs.misfits.first_old.Given as goal

-- the images that are left make what all make
abbrev pub invariant-loop-log : goal.invariant-loop-log
invariant-loop-log l = first_old l.log (drop l.log l.images) ≡ first_old 0 l.images
