use Rattle.onll_eras.proofs.StateKept.{keeps_era}
use Rattle.onll_eras.proofs.RestoreSays.{restore_says, restore_prints, one_state}
use Rattle.onll_eras.proofs.NextEra.{checkpoint_cut, checkpoint_begins, checkpoint_is_done}
use Rattle.onll_eras.proofs.laws.era_laws.Goals as goal

pub returns-clause-says : goal.returns-clause-says
returns-clause-says c = restore_says

pub returns-clause-prints : goal.returns-clause-prints
returns-clause-prints c = restore_prints

pub returns-clause-one : goal.returns-clause-one
returns-clause-one c = one_state

pub returns-clause-same : goal.returns-clause-same
returns-clause-same c = keeps_era

pub returns-clause-cut : goal.returns-clause-cut
returns-clause-cut c = checkpoint_cut

pub returns-clause-next : goal.returns-clause-next
returns-clause-next c = checkpoint_begins

pub returns-clause-done : goal.returns-clause-done
returns-clause-done c = checkpoint_is_done
