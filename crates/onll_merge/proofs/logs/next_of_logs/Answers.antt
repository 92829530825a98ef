use Rattle.onll_merge.proofs.Asked.{Rises-of}
use Rattle.onll_merge.proofs.logs.next_of_logs.Goals as goal

pub next_of_log-next-requires-clause-rises : goal.next_of_log-next-requires-clause-rises
next_of_log-next-requires-clause-rises c = Rises-of c.args.logs.now c.loop-log.log c.index-logs-log.result c.as_slice.result.now c.requires.rise c.loop-log-test.true c.index-logs-log.is c.as_slice.ensures
