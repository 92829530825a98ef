use Rattle.std.proofs.Common.{◌≡◌, ◌++◌, drop}
use Rattle.onll_outside.specs.MemStore.{failing_of}
use Rattle.onll_outside.proofs.mem_store.failing_of.Given as goal

abbrev pub invariant-loop-at : goal.invariant-loop-at
invariant-loop-at l = l.failing.items ++ failing_of (drop l.at-index l.fences) l.device ≡ failing_of l.fences l.device
