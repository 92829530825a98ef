use Rattle.std.proofs.Common.{◌≡◌, ◌-◌, ◌≤◌, ◌<◌, ◌*◌, ◌^◌, length, drop}
use Rattle.onll_pmem.specs.Pmem.{words_of}
use Rattle.onll_log.specs.Masks.{marks, bits_on}
use Rattle.onll_log.proofs.mask.mask_word.Given as goal

abbrev pub invariant-loop-line : goal.invariant-loop-line
invariant-loop-line l = (l.line ≤ length l.lines) × (l.mask ≡ bits_on (marks (words_of (drop l.line l.lines))) 0) × (l.mask < 2 ^ (8 * (length l.lines - l.line)))

abbrev pub decreases-loop-line : goal.decreases-loop-line
decreases-loop-line l = l.line
