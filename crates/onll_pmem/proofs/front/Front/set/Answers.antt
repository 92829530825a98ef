use Rattle.std.proofs.Common.{◌∙◌, ap, arith}
use Rattle.onll_pmem.specs.Device.{zero_line}
use Rattle.onll_pmem.specs.Front.{front_view}
use Rattle.onll_pmem.specs.Pmem.{words_of}
use Rattle.onll_pmem.proofs.Lines.{words_of-set, length-words_of}
use Rattle.onll_pmem.proofs.Fronts.{length-followed, set-followed, set-filled}
use Rattle.onll_pmem.proofs.front.Front.set.Goals as goal
use Rattle.onll_pmem.proofs.front.Front.set.Goals.{then-len-line, else-len-line}

pub returns : goal.returns
returns c =
    let within = (rw (← c.self.view_is) at c.requires) in
    let few = length-followed zero_line (words_of c.self.inside.front.items) c.self.inside.count c.self.invariant.within in
    rw (← c.self.view_is) (elim c.if-len-line.branch [
      | then-len-line w ↦ rw w.self-inside-is (ap (λ ls. front_view ls c.self.inside.count) (words_of-set w.fill.new.front.items c.args.line c.args.value)
          ∙ set-filled zero_line (words_of w.fill.new.front.items) (words_of c.self.inside.front.items) c.args.line c.self.inside.count c.args.value.w
          (omega (arith, length-words_of c.self.inside.front.items, w.if-len-line.true, c.len.ensures)) (omega (arith, few, within))
          (rw (length-words_of c.self.inside.front.items) w.fill.ensures.words))
      | else-len-line w ↦ rw w.self-inside-is (ap (λ ls. front_view ls c.self.inside.count) (words_of-set c.self.inside.front.items c.args.line c.args.value)
          ∙ set-followed zero_line (words_of c.self.inside.front.items) c.args.line c.self.inside.count c.args.value.w
          (omega (arith, length-words_of c.self.inside.front.items, w.if-len-line.false, c.len.ensures)))
    ])
