use Rattle.onll_serve.proofs.laws.told_law.Goals as goal

pub returns : goal.returns
returns g c = g.met.P.Pmem.told_by_type
