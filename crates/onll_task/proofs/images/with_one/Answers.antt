use Rattle.std.proofs.Common.{rules, ◌≡◌, List, [], ◌∷◌, length, ap, sym, refl, ◌∙◌, arith}
use Rattle.std.specs.Cow.{cow_slice_items}
use Rattle.onll_words.specs.declared.line.Line.{Line}
use Rattle.onll_pmem.specs.Device.{zero_line}
use Rattle.onll_pmem.specs.Pmem.{words_of}
use Rattle.onll_pmem.proofs.Fronts.{followed-more}
use Rattle.onll_outside.specs.Views.{with_zeros}
use Rattle.onll_task.proofs.images.with_one.Goals as goal

no_line : (ls : List Line) → length ls ≡ 0 → ls ≡ []
no_line [] e = refl
no_line (l ∷ ls) e = absurd (omega arith)

pub returns-clause-same : goal.returns-clause-same
returns-clause-same c =
    let count = c.args.count in
    let one : Line = record { w = zero_line } in
    let none : cow_slice_items c.args.front ≡ [] = no_line (cow_slice_items c.args.front) (search rules) in
    let pushed : c.push.new.self.items ≡ one ∷ [] = search rules in
    ap (λ ls. with_zeros (words_of ls) count) pushed
    ∙ (followed-more zero_line [] 1 count (omega arith) ∙ ap (λ ls. with_zeros (words_of ls) count) (sym none))
