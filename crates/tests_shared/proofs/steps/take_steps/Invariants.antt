use Rattle.onll_bank.specs.Object.{bank}
use Rattle.onll_pmem.specs.Memory.{memory_view}
use Rattle.onll_shared.specs.Passes.{IsTied}
use Rattle.tests_shared.proofs.steps.take_steps.Given as goal

abbrev pub invariant-loop-call : goal.invariant-loop-call
invariant-loop-call l = IsTied bank memory_view l.onll l.pass
