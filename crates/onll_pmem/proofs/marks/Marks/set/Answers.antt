use Rattle.std.proofs.Common.{false, arith}
use Rattle.onll_pmem.proofs.Fronts.{length-followed, set-followed, set-filled}
use Rattle.onll_pmem.proofs.marks.Marks.set.Goals as goal
use Rattle.onll_pmem.proofs.marks.Marks.set.Goals.{then-len-mark, else-len-mark}

pub returns : goal.returns
returns c =
    let within = (rw (← c.self.view_is) at c.requires) in
    let few = length-followed false c.self.inside.front.items c.self.inside.count c.self.invariant.within in
    rw (← c.self.view_is) (elim c.if-len-mark.branch [
      | then-len-mark w ↦ rw w.self-inside-is (set-filled false w.fill.new.front.items c.self.inside.front.items c.args.mark c.self.inside.count c.args.value
          (omega (arith, w.if-len-mark.true, c.len.ensures)) (omega (arith, few, within)) w.fill.ensures.marks)
      | else-len-mark w ↦ rw w.self-inside-is (set-followed false c.self.inside.front.items c.args.mark c.self.inside.count c.args.value
          (omega (arith, w.if-len-mark.false, c.len.ensures)))
    ])
