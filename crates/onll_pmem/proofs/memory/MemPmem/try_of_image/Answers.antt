use Rattle.std.proofs.Common.{rules, ℕ, ap, false, length, replicate, sym, ◌∙◌, arith}
use Rattle.onll_pmem.proofs.Lines.{length-words_of}
use Rattle.onll_pmem.proofs.Kept.{Keeps-fenced}
use Rattle.onll_pmem.proofs.memory.MemPmem.try_of_image.Goals as goal

pub invariant_of-result-2 : goal.invariant_of-result-2
invariant_of-result-2 c = let count = c.len-count.ensures ∙ sym (ap length c.read.view_is) in
    Keeps-fenced _ _ _ _ _ (search rules) (search rules)
    (omega (arith, ap length c.of_lines-read.ensures, ap length c.read.view_is, length-words_of c.args.lines.items, c.requires))
    (c.in_ok-none.ensures ∙ ap (λ (n : ℕ). replicate n false) count)
    (c.in_ok-new.ensures ∙ ap (λ (n : ℕ). replicate n false) count)
