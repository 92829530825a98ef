use Rattle.std.proofs.Common.{ℕ, ◌≡◌, ◌<◌}
use Rattle.onll_pmem.specs.Device.{line_at, zero_line}
use Rattle.onll_log.proofs.log.first_dirty.Given as goal

abbrev pub invariant-loop-line : goal.invariant-loop-line
invariant-loop-line g l = (before : ℕ) → before < l.line → line_at (g.P.Pmem.means l.device).read before ≡ zero_line
