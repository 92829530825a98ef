use Rattle.std.proofs.Common.{◌≡◌}
use Rattle.tests_base.specs.Orders.{IsResting}
use Rattle.tests_base.proofs.update.order_many.Given as goal

abbrev pub invariant-loop : goal.invariant-loop
invariant-loop l = record { ready : IsResting l.trace l.spot; thread : l.spot.me.thread ≡ l.fn.spot.me.thread }
