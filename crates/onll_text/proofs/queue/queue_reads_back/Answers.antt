use Rattle.onll_text.proofs.QueueReadBack.{queue_reads_back}
use Rattle.onll_text.proofs.queue.queue_reads_back.Goals as goal

pub returns : goal.returns
returns c = queue_reads_back c.args.queue.now c.consistent.ensures
