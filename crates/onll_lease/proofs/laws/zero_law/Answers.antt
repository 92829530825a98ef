use Rattle.onll_lease.proofs.Runs.{All-leases_after, zero_stale}
use Rattle.onll_lease.proofs.laws.zero_law.Goals as goal

pub returns-clause-entries : goal.returns-clause-entries
returns-clause-entries c = All-leases_after

pub returns-clause-zero : goal.returns-clause-zero
returns-clause-zero c = zero_stale
