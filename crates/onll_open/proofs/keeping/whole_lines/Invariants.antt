use Rattle.std.proofs.Common.{take}
use Rattle.std.specs.List.{AllByRecursion}
use Rattle.onll_outside.specs.LineFiles.{IsWholeLine}
use Rattle.onll_open.proofs.keeping.whole_lines.Given as goal

-- the lines so far are whole
abbrev pub invariant-loop-line : goal.invariant-loop-line
invariant-loop-line g l = AllByRecursion IsWholeLine (take l.line (g.P.Pmem.means l.device).read)
