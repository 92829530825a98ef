use Rattle.std.proofs.Common.{arith}
use Rattle.onll_eras.proofs.Beginnings.{no_logs, more_logs, all_logs, log_stops}
use Rattle.onll_eras.proofs.beginning.begin_logs.Goals as goal

pub loop-thread-init : goal.loop-thread-init
loop-thread-init g c = no_logs c.args.logs.now c.args.code c.args.text.now c.args.threads (g.S.Store.seen c.args.store.now)

pub loop-thread-preserved : goal.loop-thread-preserved
loop-thread-preserved g c =
    more_logs c.args.logs.now c.args.code c.args.text.now c.args.threads (g.S.Store.seen c.args.store.now) (g.S.Store.seen c.loop-thread.store) (g.S.Store.seen c.begin_log.new.store) c.loop-thread.thread
    c.new-head.result (omega arith) c.new-head.ensures.head c.loop-thread.invariant c.in-Ok.ensures

pub returns-in-Err : goal.returns-in-Err
returns-in-Err g c =
    log_stops c.args.logs.now c.args.code c.args.text.now c.args.threads (g.S.Store.seen c.args.store.now) (g.S.Store.seen c.loop-thread.store) (g.S.Store.seen c.begin_log.new.store) c.loop-thread.thread
    c.new-head.result c.in-Err.stop (omega arith) c.new-head.ensures.head c.loop-thread.invariant c.in-Err.ensures

pub returns : goal.returns
returns g c =
    all_logs c.args.logs.now c.args.code c.args.text.now c.args.threads (g.S.Store.seen c.args.store.now) (g.S.Store.seen c.loop-thread.store) c.loop-thread.thread
    (omega arith) c.loop-thread.invariant
