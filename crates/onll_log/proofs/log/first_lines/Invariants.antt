use Rattle.std.proofs.Common.{◌≡◌, take}
use Rattle.onll_pmem.specs.Pmem.{words_of}
use Rattle.onll_log.proofs.log.first_lines.Given as goal

abbrev pub invariant-loop-line : goal.invariant-loop-line
invariant-loop-line g l = words_of l.lines.items ≡ take l.line (g.P.Pmem.means l.device).read
