use Rattle.std.proofs.Common.{sym, ◌∙◌, arith}
use Rattle.onll_log.specs.Cursor.{entries_left, lines_passed}
use Rattle.onll_log.proofs.Cursors.{viewed, not_viewed}
use Rattle.onll_merge.proofs.Standings.{first_fits, free_first, free_end}
use Rattle.onll_merge.proofs.second_pass.free_up_to.Goals as goal

pub overflow_sub-result : goal.overflow_sub-result
overflow_sub-result c =
    let cur = c.args.cursor.now in
    let v = viewed (lines_passed cur) (entries_left cur) c.in-Some.entry (sym c.in-Some.is ∙ c.peek.ensures) in
    let fits = first_fits 0 cur.content.entries cur.passed v.s v.more c.requires v.split in
    omega (arith, fits, v.place, v.count)

pub returns-in-Some : goal.returns-in-Some
returns-in-Some c =
    let cur = c.args.cursor.now in
    let v = viewed (lines_passed cur) (entries_left cur) c.in-Some.entry (sym c.in-Some.is ∙ c.peek.ensures) in
    let fits = first_fits 0 cur.content.entries cur.passed v.s v.more c.requires v.split in
    free_first cur _ v.s v.more c.requires v.split (omega (arith, fits, v.place, v.count))

pub returns-in-None : goal.returns-in-None
returns-in-None c = free_end c.args.cursor.now _ (not_viewed (lines_passed c.args.cursor.now) (entries_left c.args.cursor.now) (sym c.in-None.is ∙ c.peek.ensures))
