use Rattle.std.proofs.Common.{rules, ◌≡◌, [], ◌∷◌, ◌++◌, length, ap, ◌∙◌, arith}
use Rattle.std.proofs.lemmas.List.{map-append}
use Rattle.onll_words.specs.declared.line.Line.{Line}
use Rattle.onll_pmem.specs.Device.{zero_line}
use Rattle.onll_pmem.specs.Pmem.{words_of}
use Rattle.onll_pmem.proofs.Lines.{length-words_of}
use Rattle.onll_pmem.proofs.Fronts.{followed-more}
use Rattle.onll_outside.specs.Views.{with_zeros}
use Rattle.onll_outside.proofs.gather.ended.Goals as goal

pub returns-clause-lines : goal.returns-clause-lines
returns-clause-lines c =
    let old = c.args.lines.front.items in
    let count = c.args.lines.count in
    let one : Line = record { w = zero_line } in
    let none : length old ≡ 0 = search rules in
    let pushed : c.push.new.self.items ≡ old ++ one ∷ [] = search rules in
    ap (λ ls. with_zeros (words_of ls) count) pushed
    ∙ (ap (λ ls. with_zeros ls count) (map-append (λ (line : Line). line.w) old (one ∷ [])) ∙ followed-more zero_line (words_of old) 1 count (omega (arith, none, length-words_of old)))
