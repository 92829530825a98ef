use Rattle.std.proofs.Common.{rules, length, ap, sym, subst, ◌∙◌, refl}
use Rattle.onll_pmem.specs.Device.{IsImage}
use Rattle.onll_pmem.specs.Memory.{MemoryState}
use Rattle.onll_pmem.proofs.Lines.{words_of-resized}
use Rattle.onll_pmem.proofs.memory.MemPmem.image.Goals as goal

pub returns-clause-exact : goal.returns-clause-exact
returns-clause-exact c =
    let count = c.len.ensures ∙ ap (λ (m : MemoryState). length m.device.read) c.self.view_is in
    words_of-resized c.in_ok-image.image.items c.resize.new.self.items _ _ _ _ c.in_ok-resize.ensures.items (search rules) count c.in_ok-image.ensures.within refl
    ∙ sym c.in_ok-image.ensures.exact

pub returns-clause-member : goal.returns-clause-member
returns-clause-member c =
    let count = c.len.ensures ∙ ap (λ (m : MemoryState). length m.device.read) c.self.view_is in
    subst (IsImage c.args.self.now.device) (sym (words_of-resized c.in_ok-image.image.items c.resize.new.self.items _ _ _ _ c.in_ok-resize.ensures.items (search rules) count c.in_ok-image.ensures.within refl))
    c.in_ok-image.ensures.member
