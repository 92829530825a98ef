use Rattle.std.proofs.Common.{◌∙◌, ap, refl, rules}
use Rattle.onll_pmem.specs.Pmem.{words_of}
use Rattle.onll_core.proofs.Heads.{zeros_after}
use Rattle.onll_core.proofs.worker.with_zeros.Goals as goal

pub returns : goal.returns
returns c = ap words_of c.in_ok-resize.ensures.items ∙ zeros_after c.args.front.now c.extend_from_slice.new.self.items _ _ c.args.room (search rules) (search rules) refl
