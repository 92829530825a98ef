use Rattle.std.proofs.Common.{◌≡◌, drop, take, map, true}
use Rattle.onll_pmem.specs.Pmem.{words_of}
use Rattle.onll_log.specs.Grammar.{all_named, node_of_line}
use Rattle.onll_log.proofs.image.nodes_of.Given as goal

abbrev pub invariant-loop-line : goal.invariant-loop-line
invariant-loop-line l = (l.nodes.items ≡ map node_of_line (words_of (take l.line-index l.lines))) × (all_named 65536 (words_of (drop l.line-index l.lines)) ≡ true)
