use Rattle.onll_locks.proofs.Holding.{alone_law, grant_law, holds_law, rising_law}
use Rattle.onll_locks.proofs.laws.locks_law.Goals as goal

pub returns-clause-grant : goal.returns-clause-grant
returns-clause-grant c = grant_law

pub returns-clause-rising : goal.returns-clause-rising
returns-clause-rising c = rising_law

pub returns-clause-holds : goal.returns-clause-holds
returns-clause-holds c = holds_law

pub returns-clause-alone : goal.returns-clause-alone
returns-clause-alone c = alone_law
