use Rattle.onll_eras.proofs.Beginnings.{LogsBegun}
use Rattle.onll_eras.proofs.beginning.begin_logs.Given as goal

-- the logs of the threads before were begun
abbrev pub invariant-loop-thread : goal.invariant-loop-thread
invariant-loop-thread g l = LogsBegun l.logs l.code l.text l.threads (g.S.Store.seen l.fn.store) (g.S.Store.seen l.store) l.thread
