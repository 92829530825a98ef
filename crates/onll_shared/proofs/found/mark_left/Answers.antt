use Rattle.std.proofs.Common.{sym, ◌∙◌}
use Rattle.onll_shared.proofs.Marked.{marks_more}
use Rattle.onll_shared.proofs.found.mark_left.Goals as goal

pub loop-entry-preserved : goal.loop-entry-preserved
loop-entry-preserved c = marks_more c.args.thread c.loop-entry.cursor c.advance.new.self c.in-Some.entry c.loop-entry.marks.items c.push.new.self.items _
    (sym c.in-Some.is ∙ c.peek.ensures) c.loop-entry.invariant c.in_ok-push.ensures.items c.advance.ensures
