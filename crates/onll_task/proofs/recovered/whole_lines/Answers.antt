use Rattle.std.proofs.Common.{[], take, get_or, subst, sym, arith}
use Rattle.std.specs.List.{All}
use Rattle.std.proofs.lemmas.List.{take_more, take_all}
use Rattle.std.proofs.lemmas.List.Elements.{All-push}
use Rattle.onll_words.specs.declared.line.Line.{Line}
use Rattle.onll_outside.specs.LineFiles.{IsWholeLine}
use Rattle.onll_task.proofs.recovered.whole_lines.Goals as goal

pub loop-line-preserved : goal.loop-line-preserved
loop-line-preserved c =
    let Whole = λ (line : Line). IsWholeLine line.w in
    let lines = c.args.lines.now in
    let i = c.loop-line.line-index in
    let none : Line = record { w = [] } in
    subst (All Whole) (sym (take_more lines i none (omega arith))) (All-push Whole (take i lines) (get_or lines i none) c.loop-line.invariant c.whole_line.ensures)

pub returns : goal.returns
returns c =
    let lines = c.args.lines.now in
    subst (All (λ (line : Line). IsWholeLine line.w)) (take_all c.loop-line.line-index lines (omega arith)) c.loop-line.invariant
