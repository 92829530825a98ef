use Rattle.std.proofs.Common.{ap}
use Rattle.onll_trace.specs.Plans.{Plan}
use Rattle.tests_outside.proofs.Spots.{begins}
use Rattle.tests_outside.proofs.held.new_spot.Goals as goal

pub returns : goal.returns
returns c = begins c.in-Ok.trace c.in-Ok.spots.items c.pop.new.self.items c.in-Some.spot (ap (λ (k : Plan). k.logs) c.in-Ok.ensures.plan) c.in-Ok.ensures.spots c.in-Some.ensures.items
