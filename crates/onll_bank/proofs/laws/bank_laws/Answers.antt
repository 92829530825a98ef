use Rattle.onll_bank.proofs.Totals.{bound_law}
use Rattle.onll_bank.proofs.laws.bank_laws.Goals as goal

pub returns-clause-bound : goal.returns-clause-bound
returns-clause-bound c = bound_law
