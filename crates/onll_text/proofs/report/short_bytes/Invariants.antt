use Rattle.std.proofs.Common.{◌≡◌, take}
use Rattle.onll_text.proofs.report.short_bytes.Given as goal

-- the bytes so far are written
abbrev pub invariant-loop-i : goal.invariant-loop-i
invariant-loop-i l = take l.i l.buffer ≡ take l.i l.text.bytes
