use Rattle.std.proofs.Common.{Some}
use Rattle.onll_threads.proofs.job.do_work.Given as goal

abbrev pub ghosts-sit : goal.ghosts-sit
ghosts-sit g a = record { first = Some (record { onll = a.at.now.onll; pass = a.pass }) }
