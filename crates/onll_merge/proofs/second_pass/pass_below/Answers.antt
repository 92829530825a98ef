use Rattle.std.proofs.Common.{◌<◌, take, sym, ap, ◌∙◌, subst, arith}
use Rattle.std.specs.List.{AllByRecursion}
use Rattle.onll_model.specs.Segment.{Segment}
use Rattle.onll_log.specs.Cursor.{CursorState, entries_left, lines_passed}
use Rattle.onll_log.proofs.Cursors.{viewed, gone_on}
use Rattle.onll_merge.specs.Standing.{StandsBelow}
use Rattle.onll_merge.proofs.Standings.{all_and}
use Rattle.onll_merge.proofs.second_pass.pass_below.Goals as goal

pub loop-entry-preserved : goal.loop-entry-preserved
loop-entry-preserved c =
    let cur = c.loop-entry.cursor in
    let place = c.args.place in
    let P : Segment → Type 0 = λ s. s.place < place in
    let v = viewed (lines_passed cur) (entries_left cur) c.in-Some.entry (sym c.in-Some.is ∙ c.peek.ensures) in
    let g = gone_on cur.content.entries cur.passed v.s v.more v.split in
    record {
      same = ap (λ (x : CursorState). x.content) c.advance.ensures ∙ c.loop-entry.invariant.same;
      below = subst (StandsBelow place) (sym c.advance.ensures)
          (subst (AllByRecursion P) (sym g.gone) (all_and P (take cur.passed cur.content.entries) v.s c.loop-entry.invariant.below (omega (arith, v.place, c.if-place-entry.false))));
    }
