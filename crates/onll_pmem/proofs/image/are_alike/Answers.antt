use Rattle.std.proofs.Common.{[], arith, sym, ◌∙◌}
use Rattle.std.proofs.lemmas.Bool.{not-false}
use Rattle.std.proofs.lemmas.Slice.Eq.{bytes_eq-Decides}
use Rattle.onll_words.specs.declared.line.Line.{Line}
use Rattle.onll_pmem.proofs.Lines.{words_more}
use Rattle.onll_pmem.proofs.image.are_alike.Goals as goal

pub loop-i-preserved : goal.loop-i-preserved
loop-i-preserved c =
    let none : Line = record { w = [] } in
    words_more c.args.fenced.now c.args.read.now c.loop-i.i none (omega arith) (omega arith) c.loop-i.invariant
    ((bytes_eq-Decides _ _).0 (not-false _ (sym c.ne.ensures ∙ c.if-ne.false)))
