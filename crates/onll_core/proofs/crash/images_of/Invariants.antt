use Rattle.std.proofs.Common.{◌≡◌, take, map}
use Rattle.onll_pmem.specs.Pmem.{words_of}
use Rattle.onll_core.specs.Crash.{images_of}
use Rattle.onll_core.proofs.crash.images_of.Given as goal

abbrev pub invariant-loop-worker : goal.invariant-loop-worker
invariant-loop-worker g l = map (λ image. words_of image.items) l.images.items ≡ images_of l.keep (take l.worker-index l.workers)
