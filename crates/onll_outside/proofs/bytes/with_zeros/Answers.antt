use Rattle.std.proofs.Common.{rules, ◌∙◌, ap, length, arith, ◌≤◌}
use Rattle.onll_pmem.specs.Pmem.{words_of}
use Rattle.onll_outside.specs.Views.{with_zeros}
use Rattle.onll_outside.proofs.Devices.{words_of-resized}
use Rattle.onll_outside.proofs.bytes.with_zeros.Goals as goal

pub returns : goal.returns
returns c = let same = c.in_ok-image.ensures.items in let few : length c.in_ok-image.image.items ≤ c.args.lines = let r = c.requires in let l = ap length same in omega arith in
    ap words_of c.in_ok-resize.ensures.items ∙ words_of-resized c.in_ok-image.image.items c.args.lines _ few (search rules) ∙ ap (λ ls. with_zeros (words_of ls) c.args.lines) same
