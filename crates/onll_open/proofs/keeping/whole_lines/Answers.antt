use Rattle.std.proofs.Common.{[], ◌∷◌, take, sym, subst, arith}
use Rattle.std.specs.List.{AllByRecursion}
use Rattle.std.proofs.lemmas.List.{take_all, take_more}
use Rattle.onll_model.proofs.Lists.{all_append}
use Rattle.onll_pmem.specs.Device.{line_at}
use Rattle.onll_outside.specs.LineFiles.{IsWholeLine}
use Rattle.onll_open.proofs.keeping.whole_lines.Goals as goal

pub loop-line-preserved : goal.loop-line-preserved
loop-line-preserved g c =
    let lines = (g.P.Pmem.means c.args.device.now).read in
    let i = c.loop-line.line in
    let here = subst IsWholeLine c.read.ensures c.whole_line.ensures in
    subst (AllByRecursion IsWholeLine) (sym (take_more lines i [] (omega arith)))
    (all_append IsWholeLine (take i lines) (line_at lines i ∷ []) c.loop-line.invariant (here, tt))

pub returns : goal.returns
returns g c =
    let lines = (g.P.Pmem.means c.args.device.now).read in
    subst (AllByRecursion IsWholeLine) (take_all c.loop-line.line lines (omega arith)) c.loop-line.invariant
