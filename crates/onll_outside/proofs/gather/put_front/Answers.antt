use Rattle.std.proofs.Common.{◌-◌, length, ap, sym, subst, ◌∙◌}
use Rattle.std.specs.List.{AllByRecursion}
use Rattle.onll_pmem.specs.Pmem.{words_of}
use Rattle.onll_outside.specs.Views.{with_zeros}
use Rattle.onll_outside.specs.LineFiles.{IsWholeLine}
use Rattle.onll_outside.proofs.WholeLines.{whole_to_end}
use Rattle.onll_outside.proofs.gather.put_front.Goals as goal

pub returns-clause-whole : goal.returns-clause-whole
returns-clause-whole c h =
    let old = words_of c.args.lines.now.items in
    c.put_lines.ensures.whole (subst (AllByRecursion IsWholeLine) (sym (c.put_zeros.ensures.words ∙ ap (λ ls. with_zeros (words_of ls) c.args.count) c.reserve.ensures.items)) (whole_to_end old (c.args.count - length old) h))
