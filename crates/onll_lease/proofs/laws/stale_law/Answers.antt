use Rattle.onll_lease.proofs.Runs.{stale-leases_after}
use Rattle.onll_lease.proofs.laws.stale_law.Goals as goal

pub returns-clause-stale : goal.returns-clause-stale
returns-clause-stale c = stale-leases_after
