use Rattle.std.proofs.Common.{◌≡◌, drop, map}
use Rattle.onll_start.specs.Found.{first_old}
use Rattle.onll_start.proofs.found.first_old.Given as goal

-- none of the images so far is of an old format
abbrev pub invariant-loop-log : goal.invariant-loop-log
invariant-loop-log g l = first_old l.log (map g.I.LogImage.lines_of (drop l.log l.images)) ≡ first_old 0 (map g.I.LogImage.lines_of l.images)
