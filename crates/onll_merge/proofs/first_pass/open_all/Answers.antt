use Rattle.std.proofs.Common.{◌≡◌, ◌+◌, ◌++◌, ◌∷◌, [], length, length-append, sym, ap, ◌∙◌, subst, arith, rules}
use Rattle.std.specs.List.{AllByRecursion}
use Rattle.onll_log.specs.Cursor.{CursorState}
use Rattle.onll_merge.proofs.Standings.{open_more, all_and}
use Rattle.onll_merge.proofs.first_pass.open_all.Goals as goal

pub loop-log-preserved : goal.loop-log-preserved
loop-log-preserved g c =
    let log = c.loop-log.log in
    let cursors = c.loop-log.cursors.items in
    let pushed : c.push.new.self.items ≡ cursors ++ c.in-Some.cursor ∷ [] = search rules in
    record {
      all = open_more g.I.LogImage.lines_of c.args.images.now log c.index-images-log.result cursors c.push.new.self.items c.in-Some.cursor (omega arith) c.index-images-log.is pushed
          c.in-Some.ensures.0 ∙ c.loop-log.invariant.all;
      first = subst (AllByRecursion (λ (x : CursorState). x.passed ≡ 0)) (sym pushed) (all_and (λ (x : CursorState). x.passed ≡ 0) cursors c.in-Some.cursor c.loop-log.invariant.first c.in-Some.ensures.1);
      count = ap length pushed ∙ (length-append cursors (c.in-Some.cursor ∷ []) ∙ ap (λ n. n + 1) c.loop-log.invariant.count);
    }
