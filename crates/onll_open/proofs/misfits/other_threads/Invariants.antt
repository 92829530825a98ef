use Rattle.std.proofs.Common.{◌≡◌, drop}
use Rattle.onll_open.specs.Misfits.{other_threads}
use Rattle.onll_open.proofs.misfits.other_threads.Given as goal

-- the images that are left make what all make
abbrev pub invariant-loop-image : goal.invariant-loop-image
invariant-loop-image l = other_threads l.threads (drop l.image-index l.images) ≡ other_threads l.threads l.images
