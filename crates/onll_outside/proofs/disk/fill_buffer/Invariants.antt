use Rattle.std.proofs.Common.{◌≤◌, length}
use Rattle.onll_outside.proofs.disk.fill_buffer.Given as goal

-- what was read fits the buffer
abbrev pub invariant-loop : goal.invariant-loop
invariant-loop g l = l.filled ≤ length l.buffer
