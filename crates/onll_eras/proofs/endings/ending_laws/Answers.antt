use Rattle.onll_eras.proofs.EraEndings.{fence_fault, file_fault}
use Rattle.onll_eras.proofs.endings.ending_laws.Goals as goal

pub returns-clause-fence : goal.returns-clause-fence
returns-clause-fence c = fence_fault

pub returns-clause-file : goal.returns-clause-file
returns-clause-file c = file_fault
