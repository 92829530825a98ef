use Rattle.std.proofs.Common.{map, length}
use Rattle.onll_pmem.specs.Pmem.{words_of}
use Rattle.onll_core.proofs.Crashed.{own_crash}
use Rattle.onll_core.proofs.step_core.Core.crash.Goals as goal

pub returns-clause-own : goal.returns-clause-own
returns-clause-own g c =
    own_crash (λ images. map (λ image. words_of image.items) images.items) (length c.args.self.now.threads) c.args.self.now c.args.keep c.workers.result.now c.consistent.ensures c.workers.ensures c.images_of.result c.images_of.ensures
