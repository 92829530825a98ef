use Rattle.std.proofs.Common.{◌≡◌, length}
use Rattle.onll_text.specs.Making.{after_lines}
use Rattle.onll_text.proofs.init.add_lines.Given as goal

-- the lines that are left make what all make
abbrev pub invariant-loop-number : goal.invariant-loop-number
invariant-loop-number g l =
    let with_line = g.I.Initial.with_line in
    after_lines with_line l.made l.lines ≡ after_lines with_line l.fn.made l.fn.lines

abbrev pub decreases-loop-number : goal.decreases-loop-number
decreases-loop-number g l = length l.lines
