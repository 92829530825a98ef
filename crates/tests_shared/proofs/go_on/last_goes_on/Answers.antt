use Rattle.onll_pmem.specs.Memory.{memory_view}
use Rattle.tests_shared_calls.proofs.Made.{tied_last}
use Rattle.tests_shared.proofs.go_on.last_goes_on.Goals as goal

pub returns-in-Some : goal.returns-in-Some
returns-in-Some g c = tied_last g.O.Object.means memory_view c.in-Ok.begun.0 _ _ c.in-Some.pass c.in-Ok.ensures.passes.tied c.in-Some.ensures.items
