use Rattle.std.proofs.Common.{◌≡◌, drop}
use Rattle.onll_open.specs.Misfits.{first_headless}
use Rattle.onll_open.proofs.misfits.first_headless.Given as goal

-- the images that are left make what all make
abbrev pub invariant-loop-log : goal.invariant-loop-log
invariant-loop-log l = first_headless l.log (drop l.log l.images) ≡ first_headless 0 l.images
