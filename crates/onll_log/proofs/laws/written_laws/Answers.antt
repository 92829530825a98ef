use Rattle.onll_log.proofs.Written.{Holds-exactly, no_head-exactly}
use Rattle.onll_log.proofs.laws.written_laws.Goals as goal

pub returns : goal.returns
returns c = record { written = Holds-exactly; no_head = no_head-exactly }
