use Rattle.onll_merge.proofs.Asked.{Rises-of}
use Rattle.onll_merge.proofs.logs.node_of_place.Goals as goal

pub node_of_log-requires-clause-rises : goal.node_of_log-requires-clause-rises
node_of_log-requires-clause-rises c = Rises-of c.args.logs.now c.loop-log.log c.index-logs-log.result c.as_slice.result.now c.requires.rise c.loop-log-test.true c.index-logs-log.is c.as_slice.ensures
