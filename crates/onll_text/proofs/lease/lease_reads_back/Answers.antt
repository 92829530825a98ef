use Rattle.onll_text.proofs.LeaseReadBack.{lease_reads_back}
use Rattle.onll_text.proofs.lease.lease_reads_back.Goals as goal

pub returns : goal.returns
returns c = lease_reads_back c.args.lease.now c.consistent.ensures
