use Rattle.std.proofs.Common.{◌≡◌, length, take}
use Rattle.onll_pmem.specs.Pmem.{words_of}
use Rattle.onll_log.specs.Encoding.{node_lines}
use Rattle.onll_log.proofs.entry.node_lines.Given as goal

abbrev pub invariant-loop-i : goal.invariant-loop-i
invariant-loop-i l = (length l.lines ≡ 16) × (words_of (take l.i l.lines) ≡ node_lines (take l.i l.nodes))
