use Rattle.std.proofs.Common.{◌≡◌, ◌≤◌, length}
use Rattle.tests_base.proofs.pmem.fence_each.Given as goal

abbrev pub invariant-loop-line : goal.invariant-loop-line
invariant-loop-line g l = record {
  lines : length (g.P.Pmem.means l.device).read ≡ length (g.P.Pmem.means l.initial.device).read;
  fences : (g.P.Pmem.means l.device).fences ≤ l.line;
  durable : l.durable ≤ l.line;
}
