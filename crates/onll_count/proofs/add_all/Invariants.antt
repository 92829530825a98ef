use Rattle.onll_count.specs.Turns.{AreBetween}
use Rattle.onll_count.proofs.add_all.Given as goal

abbrev pub invariant-loop-turn : goal.invariant-loop-turn
invariant-loop-turn g l = AreBetween g.P.Pmem.means l.onll l.passes
