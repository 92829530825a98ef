use Rattle.onll_count.proofs.Turned.{turned}
use Rattle.onll_count.proofs.add_all.Goals as goal

pub loop-turn-preserved : goal.loop-turn-preserved
loop-turn-preserved g c =
    turned g.P.Pmem.means c.args.onll.now c.loop-turn.passes c.thread_at-thread.result c.index-passes-thread.result c.update-done.new.pass c.loop-turn.invariant
    c.update-done.ensures.tied c.update-done.ensures.same.thread
