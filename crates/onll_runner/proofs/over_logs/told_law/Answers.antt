use Rattle.onll_runner.proofs.over_logs.told_law.Goals as goal

pub returns : goal.returns
returns g c = g.met.P.Pmem.told_by_type
