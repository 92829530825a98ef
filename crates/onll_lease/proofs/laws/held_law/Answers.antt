use Rattle.onll_lease.proofs.Runs.{kept-leases_after}
use Rattle.onll_lease.proofs.laws.held_law.Goals as goal

pub returns-clause-kept : goal.returns-clause-kept
returns-clause-kept c = kept-leases_after
