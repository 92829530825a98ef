use Rattle.onll_locked.proofs.Merged.{begun_whole, merged_whole, done_whole}
use Rattle.onll_locked.proofs.laws.whole_laws.Goals as goal

pub returns-clause-begun : goal.returns-clause-begun
returns-clause-begun g c = begun_whole

pub returns-clause-kept : goal.returns-clause-kept
returns-clause-kept g c = λ s new t th log log' was is next heads logs d at h. done_whole g.O.Object.means s new t th log log' was is heads logs at h next d

pub returns-clause-merged : goal.returns-clause-merged
returns-clause-merged g c = merged_whole
