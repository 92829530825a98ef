use Rattle.onll_lease.proofs.Runs.{AllPairs-tokens, token-leases_after}
use Rattle.onll_lease.proofs.laws.token_law.Goals as goal

pub returns-clause-rising : goal.returns-clause-rising
returns-clause-rising c = AllPairs-tokens

pub returns-clause-counted : goal.returns-clause-counted
returns-clause-counted c = token-leases_after
