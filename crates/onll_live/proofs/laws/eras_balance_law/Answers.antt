use Rattle.onll_live.proofs.Balances.{eras_balance, eras_floor}
use Rattle.onll_live.proofs.laws.eras_balance_law.Goals as goal

pub returns-clause-balance : goal.returns-clause-balance
returns-clause-balance g c m code description name =
    eras_balance g.O.Object.means g.P.Pmem.means g.W.Work.promise code description name m (c.balance_law.ensures.front m)

pub returns-clause-floor : goal.returns-clause-floor
returns-clause-floor g c f code description name =
    eras_floor g.O.Object.means g.P.Pmem.means g.W.Work.promise code description name f (c.floor_law.ensures.front f)
