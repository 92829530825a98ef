use Rattle.onll_bank.specs.Object.{bank}
use Rattle.onll_pmem.specs.Memory.{memory_view}
use Rattle.onll_shared.specs.Passes.{IsTied}
use Rattle.tests_scripts.proofs.one_script.said_in_turn.Given as goal

abbrev pub invariant-loop-turn : goal.invariant-loop-turn
invariant-loop-turn l = record {
  zero : IsTied bank memory_view l.onll l.zero;
  one : IsTied bank memory_view l.onll l.one;
}
