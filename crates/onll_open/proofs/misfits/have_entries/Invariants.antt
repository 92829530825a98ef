use Rattle.std.proofs.Common.{◌≡◌, drop}
use Rattle.onll_open.specs.Misfits.{have_entries}
use Rattle.onll_open.proofs.misfits.have_entries.Given as goal

-- the images that are left make what all make
abbrev pub invariant-loop-image : goal.invariant-loop-image
invariant-loop-image l = have_entries (drop l.image-index l.images) ≡ have_entries l.images
