use Rattle.std.proofs.Common.{◌≡◌, ◌++◌, length}
use Rattle.onll_log.specs.Cursor.{entries_left}
use Rattle.onll_shared.specs.Found.{marks_of}
use Rattle.onll_shared.proofs.found.mark_left.Given as goal

-- the marks so far and those of the entries that are left
abbrev pub invariant-loop-entry : goal.invariant-loop-entry
invariant-loop-entry l = l.marks.items ++ marks_of l.thread (entries_left l.cursor) ≡ l.fn.marks.items ++ marks_of l.thread (entries_left l.fn.cursor)

abbrev pub decreases-loop-entry : goal.decreases-loop-entry
decreases-loop-entry l = length (entries_left l.cursor)
