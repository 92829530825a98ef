use Rattle.onll_model.specs.Limits.{most_threads}
use Rattle.onll_outside.specs.Views.{SameDevices, SameFaults}
use Rattle.onll_open.specs.Files.{SameBut}
use Rattle.onll_open.specs.Names.{log_names}
use Rattle.onll_live.specs.Beginning.{LogsAreEmpty}
use Rattle.onll_live.proofs.beginning.clear_logs.Given as goal

abbrev pub invariant-loop-thread : goal.invariant-loop-thread
invariant-loop-thread g l =
    LogsAreEmpty (g.S.Store.seen l.store) l.fn.logs l.thread × SameFaults (g.S.Store.seen l.fn.store) (g.S.Store.seen l.store)
    × SameBut (log_names l.fn.logs 0 most_threads) (g.S.Store.seen l.fn.store) (g.S.Store.seen l.store)
    × SameDevices (g.S.Store.seen l.fn.store) (g.S.Store.seen l.store)
