use Rattle.std.proofs.Common.{◌-◌, take, length, sym, ap, ◌∙◌, arith}
use Rattle.onll_words.specs.declared.line.Line.{Line}
use Rattle.onll_pmem.specs.Device.{zero_lines}
use Rattle.onll_pmem.specs.Pmem.{words_of}
use Rattle.std.proofs.lemmas.List.{take-map, take-append-le, length-map}
use Rattle.onll_log.proofs.log.front_of.Goals as goal

pub returns-then-count-front : goal.returns-then-count-front
returns-then-count-front g c =
    let n = c.args.count in
    let front = c.in-Some.front.now in
    let read = (g.P.Pmem.means c.args.device.now).read in
    let rest = zero_lines (length read - length front) in
    sym (take-map (λ (l : Line). l.w) n front)
    ∙ (sym (take-append-le n (words_of front) rest (omega (arith, c.if-count-front.true, length-map front (λ (l : Line). l.w))))
    ∙ ap (take n) (sym c.in-Some.ensures.zeros))
