use Rattle.onll_bank.specs.Object.{bank}
use Rattle.onll_pmem.specs.Memory.{memory_view}
use Rattle.onll_shared.specs.Passes.{IsTied}
use Rattle.tests_shared.proofs.tries.try_all.Given as goal

abbrev pub invariant-loop : goal.invariant-loop
invariant-loop l = IsTied bank memory_view l.onll l.pass
