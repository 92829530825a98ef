use Rattle.std.proofs.Common.{◌≡◌, ◌-◌, drop}
use Rattle.onll_log.specs.Masks.{marks_in, bits_on}
use Rattle.onll_log.proofs.mask.marks_below.Given as goal

abbrev pub invariant-loop-word : goal.invariant-loop-word
invariant-loop-word l = l.mask ≡ bits_on (marks_in (drop (8 - l.word) l.line.w)) l.above
