use Rattle.std.proofs.Common.{rules, ◌≡◌, ◌∙◌, ap, subst}
use Rattle.std.specs.Result.{IfOk}
use Rattle.onll_pmem.specs.Pmem.{words_of}
use Rattle.onll_outside.specs.Views.{with_zeros}
use Rattle.onll_checkpoint.specs.Grammar.{checkpoint_in}
use Rattle.onll_areas.proofs.AreaReads.{words_of-filled}
use Rattle.onll_areas.proofs.area.found_in.Goals as goal

pub returns : goal.returns
returns c =
    let items = c.args.read.front.items in
    let count = c.args.read.count in
    let filled : words_of c.resize.new.self.items ≡ with_zeros (words_of items) count =
    ap words_of c.in_ok-resize.ensures.items ∙ words_of-filled items count _ c.requires (search rules) in
    let same : words_of c.deref.result.now ≡ words_of c.resize.new.self.items = ap words_of c.deref.ensures.value in
    subst (λ lines. IfOk c.load.result (λ found. found ≡ checkpoint_in lines)) (same ∙ filled) c.load.ensures
