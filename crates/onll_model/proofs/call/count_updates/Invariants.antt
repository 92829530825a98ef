use Rattle.std.proofs.Common.{◌≡◌, ◌+◌, drop}
use Rattle.onll_model.specs.Calls.{updates_in}
use Rattle.onll_model.proofs.call.count_updates.Given as goal

abbrev pub invariant-loop-call : goal.invariant-loop-call
invariant-loop-call g l = l.updates + updates_in (drop l.call-index l.calls) ≡ updates_in l.calls
