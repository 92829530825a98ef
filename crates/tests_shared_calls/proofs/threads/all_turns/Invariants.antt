use Rattle.std.proofs.Common.{◌≡◌}
use Rattle.onll_pmem.specs.Memory.{memory_view}
use Rattle.onll_shared.specs.Passes.{IsTied}
use Rattle.tests_shared_calls.proofs.threads.all_turns.Given as goal

abbrev pub invariant-loop-i : goal.invariant-loop-i
invariant-loop-i g l = record {
  tied : IsTied g.O.Object.means memory_view l.onll l.pass;
  thread : l.pass.spot.me.thread ≡ l.initial.pass.spot.me.thread;
}
