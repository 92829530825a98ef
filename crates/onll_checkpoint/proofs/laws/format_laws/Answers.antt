use Rattle.onll_checkpoint.proofs.Found.{checkpoint_in-written}
use Rattle.onll_checkpoint.proofs.Guard.{guard_by_bits}
use Rattle.onll_checkpoint.proofs.laws.format_laws.Goals as goal

pub returns : goal.returns
returns c = record { found = checkpoint_in-written; guard = guard_by_bits }
