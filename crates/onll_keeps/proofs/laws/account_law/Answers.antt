use Rattle.onll_keeps.proofs.Accounting.{serves_evenly}
use Rattle.onll_keeps.proofs.laws.account_law.Goals as goal

pub returns : goal.returns
returns g c m a =
    serves_evenly g.P.Pmem.means m g.W.Work.promise a (c.balance_law.ensures.front m) (c.balance_law.ensures.whole m)
